use Prim.Native.Nat.{◌≤◌, ◌*◌}
use mathlib.Core.Path.{◌≡◌}
use Rattle.sums.specs.Sums.{sum_to}
use Rattle.star.specs.Lines.{on_line}
use Rattle.star.proofs.lines.line_sum.Given as goal

abbrev pub invariant-loop-t : goal.invariant-loop-t
invariant-loop-t l = (l.sum ≡ sum_to l.t (λ u. on_line l.n l.demand l.line u)) × (l.sum ≤ 65535 * l.t)
