-- `slots::writing::write_slots` meets its contract: the slots passed hold the bytes, and nothing else has changed. Assumes nothing.
use native.Mathlib.Omega.{arith}
use Rattle.slots.proofs.WriteLaws.{fill_step, slot_here}
use Rattle.slots.proofs.writing.write_slots.Goals as goal

pub loop-k-preserved : goal.loop-k-preserved
loop-k-preserved c = fill_step (omega arith) c.loop-k.invariant (slot_here (omega arith) c.write_slot.ensures)
