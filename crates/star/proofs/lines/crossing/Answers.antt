-- `star::lines::crossing` meets its contract: by the cases row and column. Assumes nothing.
use Rattle.star.proofs.CrossingLaws.{crossing_row, crossing_column}
use mathlib.Core.Path.{sym}
use Rattle.star.proofs.lines.crossing.Goals as goal

pub returns-then-line-n : goal.returns-then-line-n
returns-then-line-n c = sym (crossing_row _ _ _ c.if-line-n.true)

pub returns-else-line-n : goal.returns-else-line-n
returns-else-line-n c = sym (crossing_column _ _ _ c.if-line-n.false)
