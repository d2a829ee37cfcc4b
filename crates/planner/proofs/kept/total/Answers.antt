-- `total` meets its contract: the running sum is that of the rows passed. Assumes nothing.
use native.Mathlib.Omega.{arith}
use mathlib.Core.Path.{◌≡◌, sym, ◌∙◌}
use Rattle.sums.proofs.Sums.{sum_more, sum_none, sum_done}
use Rattle.star.proofs.LineLaws.{total_rows}
use Rattle.star.specs.Lines.{line_sum}
use Rattle.planner.proofs.kept.total.Goals as goal

pub loop-i-init : goal.loop-i-init
loop-i-init c = (sym (sum_none _), omega arith)

pub loop-i-preserved : goal.loop-i-preserved
loop-i-preserved c = (omega (arith, c.loop-i.invariant.0, c.line_sum-sum.ensures.0, sum_more c.loop-i.i (λ r. line_sum c.args.n c.args.table.now r)), omega (arith, c.line_sum-sum.ensures))

pub returns : goal.returns
returns c = let done : c.loop-i.i ≡ c.args.n = omega arith in
    sum_done _ done c.loop-i.invariant.0 ∙ sym (total_rows _ _)
