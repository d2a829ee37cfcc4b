use Rattle.at_least.specs.Halves.{HalvesJoined}
use Rattle.at_least.proofs.join.Given as goal

abbrev pub invariant-loop-j : goal.invariant-loop-j
invariant-loop-j l = HalvesJoined l.low l.high l.sets l.j
