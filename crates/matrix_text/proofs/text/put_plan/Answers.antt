-- `put_plan` puts a plan, line by line; it fits, since there are at most 64 lines of 64 numbers with at most ten digits. Assumes nothing.
use native.Mathlib.Omega.{arith}
use Rattle.pieces.proofs.PieceLaws.{puts_more}
use Rattle.matrix_text.specs.Text.{plan_text}
use Rattle.matrix_text.proofs.TextLaws.{rows_length}
use Rattle.matrix_text.proofs.text.put_plan.Goals as goal

pub put_rows-requires-clause-fits : goal.put_rows-requires-clause-fits
put_rows-requires-clause-fits c =
    omega (arith, c.requires, c.put_head.ensures, c.put_totals.ensures, rows_length c.args.head.nodes c.args.kept.now (λ p. omega (arith, c.type_inv.kept p)) c.requires.square.nodes)

pub returns : goal.returns
unfolding plan_text
returns c = puts_more (puts_more c.put_head.ensures.puts c.put_totals.ensures.puts) c.put_rows.ensures
