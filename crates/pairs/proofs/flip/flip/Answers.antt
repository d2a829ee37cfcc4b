-- `pairs::flip::flip` meets its contract: the loop keeps `Going`; each turn leaves one destination fewer as at the start. Assumes nothing.
use Rattle.pairs.proofs.Flips.{go_step, go_falls, go_end}
use Rattle.pairs.proofs.flip.flip.Goals as goal

pub loop-i-smaller : goal.loop-i-smaller
loop-i-smaller c = rw c.put_byte.ensures (go_falls c.requires.can (c.loop-i.invariant.all c.requires.may c.requires.can) c.loop-i-test.true c.byte-j.ensures.0 c.byte-moved.ensures.0)

pub loop-i-preserved : goal.loop-i-preserved
loop-i-preserved c = rw (c.put_byte.ensures, c.put_byte-in-loop-i.ensures) (record { all = λ may can. go_step can (c.loop-i.invariant.all may can) c.loop-i-test.true c.byte-j.ensures.0 c.byte-moved.ensures.0 })

pub returns : goal.returns
returns c = record { flipped = λ may can. go_end can (c.loop-i.invariant.all may can) c.loop-i-test.false }
