-- `walks::walk::drain` meets its contract: something has gone, or the layers are those of the search. The rows' headroom and the nodes of the layers fall. Assumes nothing.
use native.Mathlib.Omega.{arith}
use Rattle.walks.proofs.WalkLaws.{walked_none, walk_passable, drain_walk, drain_step, drain_sent}
use Rattle.walks.proofs.walk.drain.Goals as goal

pub loop-n-smaller-then-climb : goal.loop-n-smaller-then-climb
loop-n-smaller-then-climb c = let walked = drain_sent c.loop-n.invariant c.first-e.ensures (omega (arith, c.requires.headrooms, c.loop-n.auto.headroom)) c.if-e-n.false c.climb.ensures c.if-climb.true c.bottleneck-x.ensures c.send.ensures c.byte.ensures.0 c.spend.ensures in walked.falls

pub loop-n-preserved-then-climb : goal.loop-n-preserved-then-climb
loop-n-preserved-then-climb c = drain_step c.loop-n.invariant c.first-e.ensures (drain_sent c.loop-n.invariant c.first-e.ensures (omega (arith, c.requires.headrooms, c.loop-n.auto.headroom)) c.if-e-n.false c.climb.ensures c.if-climb.true c.bottleneck-x.ensures c.send.ensures c.byte.ensures.0 c.spend.ensures)

pub bottleneck-x-requires : goal.bottleneck-x-requires
bottleneck-x-requires c = walk_passable (drain_walk c.loop-n.invariant c.first-e.ensures (omega (arith, c.requires.headrooms, c.loop-n.auto.headroom)) c.if-e-n.false) c.climb.ensures c.if-climb.true

pub loop-n-preserved : goal.loop-n-preserved
loop-n-preserved c = drain_step c.loop-n.invariant c.first-e.ensures (walked_none (drain_walk c.loop-n.invariant c.first-e.ensures (omega (arith, c.requires.headrooms, c.loop-n.auto.headroom)) c.if-e-n.false) c.climb.ensures c.if-climb.false)
