-- `cells::take` meets its contract: only the upper part of the cell moves. Assumes nothing.
use Rattle.cells.proofs.CellLaws.{take_law}
use Rattle.cells.proofs.take.Goals as goal

pub returns : goal.returns
returns c = take_law c.put.ensures c.get.ensures c.requires.pair.2
