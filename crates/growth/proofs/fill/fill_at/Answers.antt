-- `growth::fill::fill_at` meets its contract: the cell gains what the row's headroom loses, or nothing. Assumes nothing.
use native.Mathlib.Omega.{arith}
use Rattle.growth.proofs.Keeping.{grew_at_none, grew_at_some}
use Rattle.growth.proofs.fill.fill_at.Goals as goal

pub returns-then-x-eq0 : goal.returns-then-x-eq0
returns-then-x-eq0 c = grew_at_none _ _ _ _ c.requires.sides

pub returns : goal.returns
returns c = grew_at_some _ _ c.requires.room.1 c.requires.room.2 c.requires.sides (omega (arith, c.min.ensures, c.min-x.ensures)) (omega (arith, c.min.ensures, c.min-x.ensures)) c.more.ensures
