-- `holds::turns::take` meets its contract: h is taken at the destinations passed, the sets are right, and what is paired stays paired at both ends. Assumes nothing.
use native.Mathlib.Omega.{arith}
use Rattle.holds.proofs.TakeLaws.{take_skip, take_part}
use Rattle.holds.proofs.turns.take.Goals as goal

pub loop-j-preserved-then-padded-level : goal.loop-j-preserved-then-padded-level
loop-j-preserved-then-padded-level c = take_skip c.requires c.loop-j.invariant c.loop-j-test.true c.byte-i.ensures.0 c.take.auto.table c.take.ensures (omega (arith, c.padded.ensures.0))

pub loop-j-preserved : goal.loop-j-preserved
loop-j-preserved c = rw (c.put_set.ensures, c.put_byte.ensures, c.put_byte-in-loop-j.ensures) (take_part c.requires c.loop-j.invariant c.loop-j-test.true c.byte-i.ensures.0 c.take.auto.table c.take.ensures (omega (arith, c.padded.ensures.0)) c.set_at.ensures c.without.ensures c.with-sources.ensures c.with-destinations.ensures)
