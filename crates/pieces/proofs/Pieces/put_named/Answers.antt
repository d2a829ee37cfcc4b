-- `put_named` puts a word and a number: two pieces are one. Assumes nothing.
use Rattle.pieces.proofs.PieceLaws.{puts_more}
use Rattle.pieces.specs.Text.{named}
use Rattle.pieces.proofs.Pieces.put_named.Goals as goal

pub returns : goal.returns
unfolding named
returns c = puts_more c.put_bytes.ensures c.put_number.ensures
