-- `put_row` puts a line, destination by destination. The loop's invariant: the pieces of the destinations passed are put. Assumes nothing.
use native.Mathlib.Omega.{arith}
use mathlib.Core.Path.{◌≡◌}
use Rattle.pieces.proofs.PieceLaws.{puts_more, puts_none, join_none, join_more, join_part}
use Rattle.matrix_text.specs.Text.{cell_text, row_text}
use Rattle.matrix_text.proofs.text.put_row.Goals as goal

pub loop-j-init : goal.loop-j-init
loop-j-init c = rw (join_none (cell_text c.args.n c.args.kept.now c.args.i)) (puts_none _)

pub put_marked-requires : goal.put_marked-requires
unfolding row_text cell_text
put_marked-requires c =
    rw (c.from.ensures, c.get.ensures, c.mark_after.ensures)
    (omega (arith, c.requires.fits, c.loop-j.invariant, join_part (cell_text c.args.n c.args.kept.now c.args.i) c.loop-j.j c.args.n c.loop-j-test.true))

pub loop-j-preserved : goal.loop-j-preserved
unfolding cell_text
loop-j-preserved c =
    rw (join_more (cell_text c.args.n c.args.kept.now c.args.i)) (puts_more c.loop-j.invariant (rw (← c.get.ensures, ← c.mark_after.ensures, ← c.from.ensures) c.put_marked.ensures))

pub returns : goal.returns
unfolding row_text
returns c = let done : c.loop-j.j ≡ c.args.n = omega arith in rw done at c.loop-j.invariant
