-- `line_sum` meets its contract: the running sum is the sum of the cells passed, each at most 65,535. Assumes nothing.
use native.Mathlib.Omega.{arith}
use mathlib.Core.Path.{◌≡◌, sym}
use Rattle.sums.proofs.Sums.{sum_more, sum_none, sum_done}
use Rattle.star.proofs.LineLaws.{on_line_most}
use Rattle.star.specs.Lines.{on_line, line_sum}
use Rattle.star.proofs.lines.line_sum.Goals as goal

pub loop-t-init : goal.loop-t-init
loop-t-init c = (sym (sum_none _), omega arith)

pub overflow_add-sum : goal.overflow_add-sum
overflow_add-sum c = omega (arith, c.on_line-sum.ensures, on_line_most _ _ _ _ c.requires.demands c.requires.on_line c.loop-t-test.true)

pub loop-t-preserved : goal.loop-t-preserved
loop-t-preserved c = (omega (arith, c.loop-t.invariant.0, c.on_line-sum.ensures, sum_more c.loop-t.t (λ u. on_line c.args.n c.args.demand.now c.args.line u)), omega (arith, c.on_line-sum.ensures, on_line_most _ _ _ _ c.requires.demands c.requires.on_line c.loop-t-test.true))

pub returns : goal.returns
unfolding line_sum
returns c = let done : c.loop-t.t ≡ c.args.n = omega arith in
    (sum_done _ done c.loop-t.invariant.0, omega arith)
