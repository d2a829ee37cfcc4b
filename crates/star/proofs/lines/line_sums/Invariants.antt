use mathlib.Core.Path.{◌≡◌}
use lib.ListN.{length}
use Rattle.star.specs.LineSums.{SummedTo}
use Rattle.star.proofs.lines.line_sums.Given as goal

abbrev pub invariant-loop-i : goal.invariant-loop-i
invariant-loop-i l = (length l.sums ≡ length l.initial.sums) × SummedTo l.n l.table l.sums l.i 0
