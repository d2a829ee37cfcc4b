-- `put_head` puts line 1, piece by piece. Assumes nothing.
use native.Mathlib.Omega.{arith}
use lib.ListN.{length-append}
use Rattle.pieces.proofs.PieceLaws.{puts_more}
use Rattle.matrix_text.specs.Text.{head_text}
use Rattle.matrix_text.proofs.text.put_head.Goals as goal

pub returns : goal.returns
unfolding head_text
returns c = record {
  puts = puts_more (puts_more (puts_more c.put_word.ensures.puts c.put_word-2.ensures.puts) c.put_word-3.ensures.puts) c.put_byte.ensures;
  short = simp length-append (omega (arith, c.put_word.ensures.short, c.put_word-2.ensures.short, c.put_word-3.ensures.short));
}
