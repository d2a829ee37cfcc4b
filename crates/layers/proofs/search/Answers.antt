-- `layers::search` meets its contract: the layers so far lead to the next, and what is reached leads nowhere else. Each turn reaches new rows. Assumes nothing.
use native.Mathlib.Omega.{arith}
use Rattle.layers.proofs.LayerLaws.{search_start, search_found, search_none, rows_fall, search_step}
use Rattle.layers.proofs.search.Goals as goal

pub loop-layers-init : goal.loop-layers-init
loop-layers-init c = search_start _ _ _ _ _ _ _ _ _ _ c.requires.0 c.requires.4 c.all.ensures c.minus-fresh_rows.ensures c.all-fresh_columns.ensures

pub returns-then-first-n : goal.returns-then-first-n
returns-then-first-n c = search_found c.loop-layers.invariant c.leading-new.ensures c.requires.0 c.both-ends.ensures c.first.ensures (omega (arith, c.loop-layers.invariant.count)) (omega (arith, c.loop-layers.invariant.count)) c.if-first-n.true

pub returns-then-first-n-2 : goal.returns-then-first-n-2
returns-then-first-n-2 c = search_none c.loop-layers.invariant c.leading-new.ensures c.minus-fresh_columns.ensures c.both-ends.ensures c.first.ensures c.if-first-n.false c.leading-here.ensures c.first-in-loop-layers.ensures c.if-first-n-2.true c.mark.ensures

pub loop-layers-smaller : goal.loop-layers-smaller
loop-layers-smaller c = rows_fall c.requires.0 c.leading-here.ensures c.first-in-loop-layers.ensures c.if-first-n-2.false c.minus-fresh_rows-in-loop-layers.ensures

pub loop-layers-preserved : goal.loop-layers-preserved
loop-layers-preserved c = search_step c.loop-layers.invariant c.leading-new.ensures c.minus-fresh_columns.ensures c.both-ends.ensures c.first.ensures c.if-first-n.false c.leading-here.ensures c.first-in-loop-layers.ensures c.requires.0 c.if-first-n-2.false c.minus-fresh_rows-in-loop-layers.ensures (omega (arith, c.loop-layers.invariant.count)) (omega (arith, c.loop-layers.invariant.count))
