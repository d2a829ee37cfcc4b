use Rattle.nodes.specs.Sets.{size}
use Rattle.pairs.proofs.Scans.{Spreading}
use Rattle.pairs.proofs.search.spread.Given as goal

abbrev pub invariant-loop-n : goal.invariant-loop-n
invariant-loop-n l = Spreading l.n l.may l.destination l.initial.next l.next l.sources l.new l.j l.todo l.reached l.left

abbrev pub decreases-loop-n : goal.decreases-loop-n
decreases-loop-n l = size l.n l.left
