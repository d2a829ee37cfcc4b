-- `put_word` puts a word and a number of at most ten digits. Assumes nothing.
use native.Mathlib.Omega.{arith}
use Rattle.pieces.proofs.TextLaws.{named_length}
use Rattle.matrix_text.proofs.text.put_word.Goals as goal

pub put_named-requires : goal.put_named-requires
put_named-requires c = rw c.from.ensures (omega (arith, c.requires, named_length c.args.word.now 9 c.args.number (omega arith)))

pub returns-clause-short : goal.returns-clause-short
returns-clause-short c = named_length c.args.word.now 9 c.args.number (omega arith)
