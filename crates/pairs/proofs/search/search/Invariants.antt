use Prim.Native.Nat.{◌+◌}
use Rattle.nodes.specs.Sets.{size}
use Rattle.pairs.proofs.Finds.{Finding}
use Rattle.pairs.proofs.search.search.Given as goal

abbrev pub invariant-loop-n : goal.invariant-loop-n
invariant-loop-n l = Finding l.n l.may l.destination l.initial.next l.next l.sources l.destinations l.todo l.left

abbrev pub decreases-loop-n : goal.decreases-loop-n
decreases-loop-n l = size l.n l.todo + size l.n l.left
