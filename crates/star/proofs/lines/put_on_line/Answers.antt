-- `star::lines::put_on_line` meets its contract: by the cases row and column. Assumes nothing.
use Rattle.star.proofs.CrossingLaws.{source_row, source_column, destination_row, destination_column}
use Rattle.star.proofs.lines.put_on_line.Goals as goal

pub returns-then-line-n : goal.returns-then-line-n
returns-then-line-n c = rw (source_row _ _ c.args.t c.if-line-n.true, destination_row _ _ c.args.t c.if-line-n.true) c.put.ensures

pub returns-else-line-n : goal.returns-else-line-n
returns-else-line-n c = rw (source_column _ _ c.args.t c.if-line-n.false, destination_column _ _ c.args.t c.if-line-n.false) c.put-else-line-n.ensures
