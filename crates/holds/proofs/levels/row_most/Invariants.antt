use Prim.Native.Nat.{◌<◌}
use Rattle.holds.proofs.levels.row_most.Given as goal

abbrev pub invariant-loop-j : goal.invariant-loop-j
invariant-loop-j l = l.most < 65536
