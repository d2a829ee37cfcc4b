-- A greatest withdrawn matrix by marks whose cut its total meets, which computes. Assumes nothing.
use Prim.Native.Nat.{ℕ, ◌*◌}
use mathlib.Core.Path.{◌≡◌}
use mathlib.Core.Bool.{true}
use mathlib.Core.List.{List}
use lib.Dec.{eqb}
use Rattle.sums.specs.Tables.{tab}
use Rattle.star.specs.Lines.{whole_frame, total, excess}
use Rattle.flow.specs.Flows.{cut}
use Rattle.flow.proofs.Check.{feasible?, meets_cut}
use Rattle.least.specs.Least.{Greatest}
use Rattle.least.proofs.Withdrawals.{largest_is_greatest}

-- marks: a number for each row and then for each column, above 0 where it is marked
pub by_marks : (n l : ℕ) (d a marks : List ℕ) →
    feasible? n d (tab (2 * n) (excess n (whole_frame n l) d)) a ≡ true → eqb (total n a) (cut n d (tab (2 * n) (excess n (whole_frame n l) d)) marks) ≡ true →
    Greatest n (whole_frame n l) d a
by_marks n l d a marks f e = largest_is_greatest n (whole_frame n l) d (meets_cut n d (tab (2 * n) (excess n (whole_frame n l) d)) a marks f e)
