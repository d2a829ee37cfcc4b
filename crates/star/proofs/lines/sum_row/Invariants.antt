use mathlib.Core.Path.{◌≡◌}
use Rattle.star.specs.LineSums.{SummedTo}
use Rattle.sums.specs.Tables.{cell}
use Rattle.sums.specs.Sums.{sum_to}
use Rattle.star.proofs.lines.sum_row.Given as goal

abbrev pub invariant-loop-j : goal.invariant-loop-j
invariant-loop-j l = (l.sum ≡ sum_to l.j (λ v. cell l.n l.table l.i v)) × SummedTo l.n l.table l.sums l.i l.j
