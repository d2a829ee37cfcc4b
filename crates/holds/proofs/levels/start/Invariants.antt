use Prim.Native.Nat.{◌<◌}
use Rattle.holds.proofs.levels.start.Given as goal

abbrev pub invariant-loop-i : goal.invariant-loop-i
invariant-loop-i l = l.level < 65536
