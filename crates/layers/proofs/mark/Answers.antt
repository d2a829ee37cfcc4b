-- `layers::mark` meets its contract: the marks of the lines passed are right. Assumes nothing.
use native.Mathlib.Omega.{arith}
use Rattle.layers.proofs.LayerLaws.{absent_mark, mark_step}
use Rattle.layers.proofs.mark.Goals as goal

pub loop-k-preserved : goal.loop-k-preserved
loop-k-preserved c = mark_step (omega (arith, c.requires.1, c.loop-k.auto.marks)) c.loop-k.invariant c.loop-k-test.true _ _ (rw c.from.ensures (absent_mark _ _ _ c.absent.ensures)) (rw c.from-in-loop-k.ensures (absent_mark _ _ _ c.absent-in-loop-k.ensures))
