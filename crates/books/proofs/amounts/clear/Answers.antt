-- `clear` meets its contract: what is filled is written. Assumes nothing.
use Rattle.star.proofs.TableLaws.{filled}
use Rattle.books.specs.Queues.{zeroed}
use Rattle.books.proofs.amounts.clear.Goals as goal

pub returns : goal.returns
unfolding zeroed
returns c = filled _ _ _ _ c.requires.cells (c.fill.ensures.after (λ y e. e))
