use Rattle.pieces.specs.Pieces.{Puts, join_to}
use Rattle.matrix_text.specs.Text.{row_text}
use Rattle.matrix_text.proofs.text.put_rows.Given as goal

abbrev pub invariant-loop-i : goal.invariant-loop-i
invariant-loop-i l = Puts l.initial.text l.text (join_to l.i (row_text l.n l.kept))
