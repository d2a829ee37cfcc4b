use Rattle.idle.specs.Idle.{Fuller}
use Rattle.idle.proofs.spare_all.Given as goal

abbrev pub invariant-loop-i : goal.invariant-loop-i
invariant-loop-i l = Fuller l.n l.initial.table l.initial.lack l.table l.lack
