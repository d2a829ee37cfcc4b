-- `put_rows` puts a line for each source. The loop's invariant: the lines of the sources passed are put. Assumes nothing.
use native.Mathlib.Omega.{arith}
use mathlib.Core.Path.{◌≡◌}
use Rattle.pieces.proofs.PieceLaws.{puts_more, puts_none, join_none, join_more, join_part}
use Rattle.matrix_text.specs.Text.{row_text, rows_text}
use Rattle.matrix_text.proofs.text.put_rows.Goals as goal

pub loop-i-init : goal.loop-i-init
loop-i-init c = rw (join_none (row_text c.args.n c.args.kept.now)) (puts_none _)

pub put_row-requires-clause-fits : goal.put_row-requires-clause-fits
unfolding rows_text
put_row-requires-clause-fits c = omega (arith, c.requires.fits, c.loop-i.invariant, join_part (row_text c.args.n c.args.kept.now) c.loop-i.i c.args.n c.loop-i-test.true)

pub loop-i-preserved : goal.loop-i-preserved
loop-i-preserved c = rw (join_more (row_text c.args.n c.args.kept.now)) (puts_more c.loop-i.invariant c.put_row.ensures)

pub returns : goal.returns
unfolding rows_text
returns c = let done : c.loop-i.i ≡ c.args.n = omega arith in rw done at c.loop-i.invariant
