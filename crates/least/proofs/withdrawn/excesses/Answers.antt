-- `excesses` meets its contract. The loop's invariant: the lines passed have their excess, the others still their sum. Assumes nothing.
use native.Mathlib.Omega.{arith}
use Rattle.sums.proofs.Fills.{filled_none}
use Rattle.least.proofs.Withdrawals.{excess_next}
use Rattle.least.proofs.withdrawn.excesses.Goals as goal

pub loop-line-init : goal.loop-line-init
loop-line-init c = filled_none _ _

pub loop-line-preserved : goal.loop-line-preserved
loop-line-preserved c = rw c.saturating_sub.ensures (excess_next c.args.n c.args.cap.now c.args.demand.now c.loop-line.invariant c.line_sums.ensures (omega (arith, c.requires.capacities)) (omega arith))
