-- `walks::climb::climb` meets its contract: from layer k on the path is known. Each step goes up a layer, or takes a node out of one. Assumes nothing.
use Prim.Native.Nat.{◌-◌}
use native.Mathlib.Omega.{arith}
use Rattle.walks.proofs.Climbs.{column_falls, climb_none, climb_end, row_falls, climb_beside, climb_up}
use Rattle.walks.proofs.climb.climb.Goals as goal

pub returns-then-k-last : goal.returns-then-k-last
returns-then-k-last c = climb_none c.requires c.loop-layers.invariant c.byte-j.ensures.0 c.meeting-i.ensures (omega arith) c.if-i-n.true c.leave.ensures

pub loop-layers-smaller-then-i-n : goal.loop-layers-smaller-then-i-n
loop-layers-smaller-then-i-n c = omega (arith, column_falls c.requires c.loop-layers.invariant c.byte-j.ensures.0 c.meeting-i.ensures (omega arith) c.if-i-n.true c.leave.ensures)

pub returns-then-k-eq0 : goal.returns-then-k-eq0
returns-then-k-eq0 c = rw c.put_byte-in-loop-layers.ensures (climb_end c.requires c.loop-layers.invariant c.byte-j.ensures.0 c.meeting-i.ensures (omega arith) c.if-i-n.false c.if-k-eq0.true)

pub loop-layers-smaller-then-g-n : goal.loop-layers-smaller-then-g-n
loop-layers-smaller-then-g-n c = omega (arith, row_falls c.requires c.loop-layers.invariant c.byte-j.ensures.0 c.meeting-i.ensures (omega arith) c.if-i-n.false (c.loop-layers.k - 1) (omega (arith, c.if-k-eq0.false)) c.meeting-g.ensures (omega arith) c.if-g-n.true c.leave-then-g-n.ensures)

pub loop-layers-preserved-then-g-n : goal.loop-layers-preserved-then-g-n
loop-layers-preserved-then-g-n c = rw c.put_byte-in-loop-layers.ensures (climb_beside c.requires c.loop-layers.invariant c.byte-j.ensures.0 c.meeting-i.ensures (omega arith) c.if-i-n.false (c.loop-layers.k - 1) (omega (arith, c.if-k-eq0.false)) c.meeting-g.ensures (omega arith) c.if-g-n.true c.leave-then-g-n.ensures)

pub loop-layers-preserved : goal.loop-layers-preserved
loop-layers-preserved c = rw (c.put_byte-in-loop-layers-2.ensures, c.put_byte-in-loop-layers.ensures) (climb_up c.requires c.loop-layers.invariant c.byte-j.ensures.0 c.meeting-i.ensures (omega arith) c.if-i-n.false (c.loop-layers.k - 1) (omega (arith, c.if-k-eq0.false)) c.meeting-g.ensures (omega arith) c.if-g-n.false)
