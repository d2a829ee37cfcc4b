-- `pairs::matching::search_all` meets its contract: each way pairs one destination more, and a failed search shows why there is none. Assumes nothing.
use Rattle.pairs.proofs.Matches.{work_search, work_flip, work_flipped, work_falls, work_end}
use Rattle.pairs.proofs.matching.search_all.Goals as goal

pub search-r-requires : goal.search-r-requires
search-r-requires c = work_search c.requires.rooms.0 c.requires.rooms.1 c.loop-n.invariant

pub returns-then-r-n : goal.returns-then-r-n
returns-then-r-n c = work_end c.loop-n.invariant.directed c.requires.rooms.0.nodes (c.search-r.ensures.none c.if-r-n.true)

pub loop-n-smaller : goal.loop-n-smaller
loop-n-smaller c = work_falls c.requires.rooms.0 c.requires.rooms.1 c.loop-n.invariant (c.flip-e.ensures.flipped _ (work_flip c.requires.rooms.0 c.requires.rooms.1 c.loop-n.invariant c.search-r.auto.next c.search-r.ensures c.if-r-n.false)) c.without-destinations.ensures

pub loop-n-preserved : goal.loop-n-preserved
loop-n-preserved c = work_flipped c.requires.rooms.0 c.requires.rooms.1 c.loop-n.invariant c.flip-e.auto.source c.flip-e.auto.destination c.search-r.auto.next (c.flip-e.ensures.flipped _ (work_flip c.requires.rooms.0 c.requires.rooms.1 c.loop-n.invariant c.search-r.auto.next c.search-r.ensures c.if-r-n.false)) c.without-sources.ensures c.without-destinations.ensures
