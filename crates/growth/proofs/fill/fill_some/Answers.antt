-- `growth::fill::fill_some` meets its contract. The loop's invariant: the sets are right, and the spans are kept with what the column still wants as its
-- headroom. The measure is what is left to do. Assumes nothing.
use native.Mathlib.Omega.{arith}
use Rattle.growth.proofs.Keeping.{grew_given}
use Rattle.growth.proofs.fill.fill_some.Goals as goal

pub loop-want-preserved-then-headroom-i-eq0 : goal.loop-want-preserved-then-headroom-i-eq0
loop-want-preserved-then-headroom-i-eq0 c = grew_given c.if-i-n.false c.requires.room.1 (omega (arith, c.requires.room.0, c.loop-want.auto.headroom)) c.loop-want.invariant c.fill_at-x.ensures

pub loop-want-preserved : goal.loop-want-preserved
loop-want-preserved c = grew_given c.if-i-n.false c.requires.room.1 (omega (arith, c.requires.room.0, c.loop-want.auto.headroom)) c.loop-want.invariant c.fill_at-x.ensures
