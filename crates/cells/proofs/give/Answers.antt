-- `cells::give` meets its contract: only the upper part of the cell moves. Assumes nothing.
use Rattle.cells.proofs.CellLaws.{give_law}
use Rattle.cells.proofs.give.Goals as goal

pub returns : goal.returns
returns c = give_law c.put.ensures c.get.ensures
