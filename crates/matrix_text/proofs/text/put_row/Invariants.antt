use Rattle.pieces.specs.Pieces.{Puts, join_to}
use Rattle.matrix_text.specs.Text.{cell_text}
use Rattle.matrix_text.proofs.text.put_row.Given as goal

abbrev pub invariant-loop-j : goal.invariant-loop-j
invariant-loop-j l = Puts l.initial.text l.text (join_to l.j (cell_text l.n l.kept l.i))
