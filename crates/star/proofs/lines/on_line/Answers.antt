-- `star::lines::on_line` meets its contract: a row and a column are the two cases of a line. Assumes nothing.
use mathlib.Core.Path.{◌∙◌, sym}
use Rattle.star.proofs.LineLaws.{on_row, on_column}
use Rattle.star.proofs.lines.on_line.Goals as goal

pub returns-then-line-n : goal.returns-then-line-n
returns-then-line-n c = c.get.ensures ∙ sym (on_row _ _ _ _ c.if-line-n.true)

pub returns-else-line-n : goal.returns-else-line-n
returns-else-line-n c = c.get-else-line-n.ensures ∙ sym (on_column _ _ _ _ c.if-line-n.false)
