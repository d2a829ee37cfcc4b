use Prim.Native.Nat.{ℕ, ◌≤◌, ◌<◌, ◌+◌, ◌*◌}
use Rattle.sums.proofs.Fills.{Filled}
use Rattle.files.specs.Format.{two}
use Rattle.play.proofs.read_cells.Given as goal

abbrev pub invariant-loop-c : goal.invariant-loop-c
invariant-loop-c l = Filled l.c (λ k. two l.file (l.at + 2 * k)) l.initial.table l.table × ((k : ℕ) → k < l.c → two l.file (l.at + 2 * k) ≤ 65535)
