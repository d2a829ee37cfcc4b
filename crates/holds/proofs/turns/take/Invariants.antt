use Rattle.holds.proofs.TakeLaws.{Taking}
use Rattle.holds.proofs.turns.take.Given as goal

abbrev pub invariant-loop-j : goal.invariant-loop-j
invariant-loop-j l = Taking l.n l.initial.table l.initial.may l.initial.source l.initial.destination l.table l.may l.source l.destination l.level l.h l.sources l.destinations l.j
