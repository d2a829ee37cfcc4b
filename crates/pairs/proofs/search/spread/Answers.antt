-- `pairs::search::spread` meets its contract: the sources that have left the set can move to j, and their destinations are to do and may hear no free source. Assumes nothing.
use Rattle.pairs.proofs.Scans.{spread_step, spread_falls}
use Rattle.pairs.proofs.search.spread.Goals as goal

pub loop-n-smaller : goal.loop-n-smaller
loop-n-smaller c = spread_falls c.requires c.loop-n.invariant c.first-i.ensures c.if-i-n.false c.byte-k.ensures.0 c.choice-r.ensures c.if-r-n.false c.with-reached.ensures c.without-left.ensures

pub loop-n-preserved : goal.loop-n-preserved
loop-n-preserved c = rw c.put_byte.ensures (spread_step c.requires c.loop-n.invariant c.first-i.ensures c.if-i-n.false c.byte-k.ensures.0 c.choice-r.ensures c.if-r-n.false c.with-reached.ensures c.without-left.ensures)
