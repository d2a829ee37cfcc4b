use Rattle.holds.proofs.TurnLaws.{Seeking}
use Rattle.holds.proofs.turns.pair.Given as goal

abbrev pub invariant-loop-free : goal.invariant-loop-free
invariant-loop-free l = Seeking l.n l.table l.initial.may l.initial.source l.initial.destination l.may l.source l.destination l.level l.held l.initial.held l.free

abbrev pub decreases-loop-free : goal.decreases-loop-free
decreases-loop-free l = l.level
