-- `put_refusal` puts a refusal's line, piece by piece; it fits, since its numbers have at most twenty digits. Assumes nothing.
use native.Mathlib.Omega.{arith}
use lib.ListN.{length-append}
use Rattle.pieces.proofs.PieceLaws.{puts_more}
use Rattle.pieces.proofs.TextLaws.{refusal_fits}
use Rattle.pieces.specs.Text.{refusal_text}
use Rattle.pieces.proofs.Pieces.put_refusal.Goals as goal

pub put_named-requires : goal.put_named-requires
unfolding refusal_text
put_named-requires c = omega (arith, simp length-append at (refusal_fits c.args.number c.args.place (omega arith) (omega arith)))

pub put_named-requires-2 : goal.put_named-requires-2
unfolding refusal_text
put_named-requires-2 c = omega (arith, c.put_named.ensures, simp length-append at (refusal_fits c.args.number c.args.place (omega arith) (omega arith)))

pub put_byte-requires : goal.put_byte-requires
unfolding refusal_text
put_byte-requires c = omega (arith, c.put_named.ensures, c.put_named-2.ensures, simp length-append at (refusal_fits c.args.number c.args.place (omega arith) (omega arith)))

pub returns : goal.returns
unfolding refusal_text
returns c = puts_more (puts_more c.put_named.ensures c.put_named-2.ensures) c.put_byte.ensures
