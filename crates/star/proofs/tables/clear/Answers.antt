-- `clear` meets its contract: what is filled is written. Assumes nothing.
use Rattle.star.proofs.TableLaws.{filled}
use Rattle.star.proofs.tables.clear.Goals as goal

pub returns : goal.returns
returns c = filled _ _ _ _ c.requires.cells (c.fill.ensures.after (λ y e. e))
