-- `pairs::matching::direct` meets its contract: the free destinations passed may hear no free source. Assumes nothing.
use Rattle.pairs.proofs.Matches.{direct_falls, direct_pair}
use Rattle.pairs.proofs.matching.direct.Goals as goal

pub loop-n-smaller-then-i-n : goal.loop-n-smaller-then-i-n
loop-n-smaller-then-i-n c = direct_falls c.requires.rooms c.loop-n.invariant c.first-j.ensures c.if-j-n.false c.without-todo.ensures

pub loop-n-smaller : goal.loop-n-smaller
loop-n-smaller c = direct_falls c.requires.rooms c.loop-n.invariant c.first-j.ensures c.if-j-n.false c.without-todo.ensures

pub loop-n-preserved : goal.loop-n-preserved
loop-n-preserved c = rw (c.put_byte.ensures, c.put_byte-in-loop-n.ensures) (direct_pair c.requires.rooms c.loop-n.invariant c.first-j.ensures c.if-j-n.false c.without-todo.ensures c.choice-i.ensures c.if-i-n.false c.without-sources.ensures c.without-destinations.ensures)
