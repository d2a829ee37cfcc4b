-- `slots::writing::write_slot` meets its contract: the destinations passed hold their bytes, and nothing else has changed. Assumes nothing.
use native.Mathlib.Omega.{arith}
use Rattle.slots.proofs.WriteLaws.{write_step}
use Rattle.slots.proofs.writing.write_slot.Goals as goal

pub loop-j-preserved : goal.loop-j-preserved
loop-j-preserved c = rw c.say.ensures (write_step (omega (arith, c.requires.1.cells)) c.loop-j-test.true c.from.ensures c.loop-j.invariant)
