use Rattle.pieces.specs.Pieces.{Puts, join_to}
use Rattle.file_writer.specs.Bytes.{cell_bytes}
use Rattle.file_writer.proofs.bytes.put_cells.Given as goal

abbrev pub invariant-loop-cell : goal.invariant-loop-cell
invariant-loop-cell l = Puts l.initial.file l.file (join_to l.cell-index (cell_bytes l.cells))
