use mathlib.Core.Path.{◌≡◌}
use Rattle.star.specs.RowSearches.{above_to}
use Rattle.star.proofs.lines.row_above.Given as goal

abbrev pub invariant-loop-j : goal.invariant-loop-j
invariant-loop-j l = l.count ≡ above_to l.n l.demand l.i l.j
