use Prim.Native.Nat.{ℕ, ◌*◌, ◌≤◌, ◌<◌}
use lib.ListN.{get_or}
use Rattle.file_writer.proofs.writing.first_wide.Given as goal

abbrev pub invariant-loop-p : goal.invariant-loop-p
invariant-loop-p l = (q : ℕ) → q < l.p * (l.n * l.n) → get_or l.cells q 0 ≤ 65535
