-- `slots::writing::extend` meets its contract: only the slot before and the first one written can differ. Assumes nothing.
use Rattle.slots.proofs.WriteLaws.{extended}
use Rattle.slots.proofs.writing.extend.Goals as goal

pub returns : goal.returns
returns c = extended c.requires.room.1 c.change-more.ensures c.write_slots.ensures
