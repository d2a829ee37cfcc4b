-- `sum_row` meets its contract: the cells passed are in the sum and in their columns' sums, at most 64 of at most 65,535 each. Assumes nothing.
use native.Mathlib.Omega.{arith}
use mathlib.Core.Path.{◌≡◌, sym, ◌∙◌}
use Rattle.sums.proofs.Sums.{sum_none, sum_more, sum_done}
use Rattle.sums.specs.Tables.{cell}
use Rattle.star.proofs.SumLaws.{cell_most, row_most, column_most, summed_cell}
use Rattle.star.proofs.LineLaws.{row_sum}
use Rattle.star.proofs.lines.sum_row.Goals as goal

pub loop-j-init : goal.loop-j-init
loop-j-init c = (sym (sum_none _), c.requires.room.2)

pub overflow_add-sum : goal.overflow_add-sum
overflow_add-sum c = omega (arith, c.requires.square.nodes, c.get-x.ensures, c.loop-j.invariant.0, row_most _ _ c.args.i c.loop-j.j c.requires.demands c.requires.room.1 c.loop-j.auto.j-end, cell_most _ _ c.args.i c.loop-j.j c.requires.demands c.requires.room.1 c.loop-j-test.true)

pub overflow_add-sums-in-loop-j : goal.overflow_add-sums-in-loop-j
overflow_add-sums-in-loop-j c = omega (arith, c.requires.square.nodes, c.get-x.ensures, column_most c.requires.demands c.requires.room.1 c.loop-j-test.true c.loop-j.invariant.1, cell_most _ _ c.args.i c.loop-j.j c.requires.demands c.requires.room.1 c.loop-j-test.true)

pub loop-j-preserved : goal.loop-j-preserved
loop-j-preserved c = (omega (arith, c.loop-j.invariant.0, c.get-x.ensures, sum_more c.loop-j.j (λ v. cell c.args.n c.args.table.now c.args.i v)), summed_cell _ c.loop-j.invariant.1 c.requires.room.1 c.loop-j-test.true (omega (arith, c.loop-j.auto.sums, c.requires.room.0)) c.get-x.ensures)

pub returns : goal.returns
returns c = let done : c.loop-j.j ≡ c.args.n = omega arith in (sum_done (λ v. cell c.args.n c.args.table.now c.args.i v) done c.loop-j.invariant.0 ∙ sym (row_sum _ _ _ c.requires.room.1), rw done at c.loop-j.invariant.1)
