use Prim.Native.Nat.{◌≤◌, ◌*◌}
use mathlib.Core.Path.{◌≡◌}
use Rattle.sums.specs.Sums.{sum_to}
use Rattle.star.specs.Lines.{line_sum}
use Rattle.planner.proofs.kept.total.Given as goal

abbrev pub invariant-loop-i : goal.invariant-loop-i
invariant-loop-i l = (l.sum ≡ sum_to l.i (λ r. line_sum l.n l.table r)) × (l.sum ≤ 4194240 * l.i)
