-- `layers::leading` meets its contract: the set is right for the nodes asked. Assumes nothing.
use mathlib.Core.Path.{◌≡◌}
use native.Mathlib.Omega.{arith}
use borrow.Author.Tests.{ltb-true, ltb-false}
use Rattle.layers.proofs.LayerLaws.{lead_step, lead_end}
use Rattle.layers.proofs.leading.Goals as goal

pub loop-i-preserved : goal.loop-i-preserved
loop-i-preserved c = lead_step c.loop-i.invariant c.requires.0 c.requires.2 c.both.ensures c.first.ensures c.loop-i-test.true _ (ltb-true c.first.result 64) (ltb-false c.first.result 64) c.with_where-s.ensures

pub returns : goal.returns
returns c =
    let all : c.loop-i.i ≡ c.args.n = omega arith in
    lead_end (rw all at c.loop-i.invariant) c.both-2.ensures
