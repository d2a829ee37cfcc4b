-- The text of the answer lies within the bytes lent to it. Assumes nothing.
use native.Mathlib.Omega.{arith}
use Rattle.pieces.proofs.PieceLaws.{answered_within}
use Rattle.matrix.proofs.MatrixProgramLONGEST_TEXT.answer.Goals as goal

pub returns-clause-within : goal.returns-clause-within
returns-clause-within c = omega (arith, answered_within c.answer.ensures)
