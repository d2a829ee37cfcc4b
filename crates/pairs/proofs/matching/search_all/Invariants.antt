use Rattle.nodes.specs.Sets.{size}
use Rattle.pairs.proofs.Matches.{Working}
use Rattle.pairs.proofs.matching.search_all.Given as goal

abbrev pub invariant-loop-n : goal.invariant-loop-n
invariant-loop-n l = Working l.n l.may l.initial.source l.initial.destination l.initial.next l.source l.destination l.next l.sources l.destinations

abbrev pub decreases-loop-n : goal.decreases-loop-n
decreases-loop-n l = size l.n l.destinations
