-- `put_cells` puts a cell each turn. Assumes nothing.
use native.Mathlib.Omega.{arith}
use Rattle.pieces.proofs.PieceLaws.{puts_none, join_none}
use Rattle.file_writer.specs.Bytes.{cell_bytes}
use Rattle.file_writer.proofs.ByteLaws.{length_cells}
use Rattle.file_writer.proofs.PutLaws.{put_cell}
use Rattle.file_writer.proofs.bytes.put_cells.Goals as goal

pub loop-cell-init : goal.loop-cell-init
loop-cell-init c = rw (join_none (cell_bytes c.args.cells.now)) (puts_none _)

pub put_two-requires-clause-room : goal.put_two-requires-clause-room
put_two-requires-clause-room c = omega (arith, c.requires.room, c.loop-cell.invariant, length_cells c.args.cells.now c.loop-cell.cell-index, c.loop-cell-test.true)

pub loop-cell-preserved : goal.loop-cell-preserved
loop-cell-preserved c = put_cell c.args.cells.now c.loop-cell.cell-index c.loop-cell.invariant c.put_two.ensures
