use Prim.Native.Nat.{ℕ, ◌≤◌, ◌<◌}
use Rattle.sums.specs.Tables.{cell}
use Rattle.star.proofs.lines.first_in_row.Given as goal

abbrev pub invariant-loop-j : goal.invariant-loop-j
invariant-loop-j l = (v : ℕ) → v < l.j → cell l.n l.demand l.i v ≤ 65535
