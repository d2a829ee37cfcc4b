use Rattle.nodes.specs.Sets.{size}
use Rattle.pairs.proofs.Matches.{Directing}
use Rattle.pairs.proofs.matching.direct.Given as goal

abbrev pub invariant-loop-n : goal.invariant-loop-n
invariant-loop-n l = Directing l.n l.may l.initial.source l.initial.destination l.source l.destination l.sources l.destinations l.todo

abbrev pub decreases-loop-n : goal.decreases-loop-n
decreases-loop-n l = size l.n l.todo
