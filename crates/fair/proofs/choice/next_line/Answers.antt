-- `next_line` finds the line that the rule takes: after m turns it has the one of the lines below m. Assumes nothing.
use native.Mathlib.Omega.{arith}
use Rattle.fair.proofs.Comparisons.{next_start, next_ahead, next_behind}
use Rattle.fair.proofs.choice.next_line.Goals as goal
use Rattle.fair.proofs.choice.next_line.Goals.{then-ahead, else-ahead}

pub loop-line-init : goal.loop-line-init
loop-line-init c = (omega arith, next_start _ _ _ _)

pub loop-line-preserved : goal.loop-line-preserved
loop-line-preserved c =
    elim c.if-ahead.branch [
      | then-ahead w ↦ rw w.found-is (omega arith, next_ahead _ _ _ _ c.loop-line.invariant.1 (rw w.if-ahead.true at c.ahead.ensures))
      | else-ahead w ↦ rw w.found-is (c.loop-line.invariant.0, next_behind _ _ _ _ c.loop-line.invariant.1 (rw w.if-ahead.false at c.ahead.ensures))
    ]
