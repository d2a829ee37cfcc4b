use Rattle.idle.specs.Idle.{Fuller}
use Rattle.idle.proofs.spare_between.Given as goal

abbrev pub invariant-loop-j : goal.invariant-loop-j
invariant-loop-j l = Fuller l.n l.initial.table l.initial.lack l.table l.lack
