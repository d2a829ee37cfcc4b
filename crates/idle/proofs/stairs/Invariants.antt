use Prim.Native.Nat.{◌+◌, ◌-◌}
use Rattle.idle.proofs.Pads.{Stairs}
use Rattle.idle.proofs.stairs.Given as goal

abbrev pub invariant-loop-i : goal.invariant-loop-i
invariant-loop-i l = Stairs l.n l.initial.table l.initial.lack l.table l.lack l.i l.j

abbrev pub decreases-loop-i : goal.decreases-loop-i
decreases-loop-i l = (l.n - l.i) + (l.n - l.j)
