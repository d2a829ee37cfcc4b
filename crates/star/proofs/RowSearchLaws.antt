-- The first demand above 65,535 by rows: a row has none where their number is 0, and a row that has one is searched. Assumes nothing.
use Prim.Native.Nat.{ℕ, ◌+◌, ◌-◌, ◌*◌, ◌≤◌, ◌<◌}
use native.Mathlib.Omega.{arith}
use native.Mathlib.Nat.{add-mul, le_of_eq}
use mathlib.Core.Path.{◌≡◌, refl, sym, ap}
use mathlib.Core.Bool.{Bool, true, false}
use mathlib.Core.List.{List}
use Rattle.std.specs.Int.{from_bool}
use lib.Dec.{ltb}
use lib.ListN.{get_or}
use borrow.Author.Tests.{lt-ltb, le-ltb}
use Rattle.sums.specs.Sums.{bit}
use Rattle.sums.specs.Tables.{cell}
use Rattle.sums.proofs.Sums.{sum_none, sum_more, sum_one, sum_at}
use Rattle.sums.proofs.Gates.{bit_most}
use Rattle.sums.proofs.Cases.{by_lt}
use Rattle.std.specs.Prelude.{Some, None}
use Rattle.sums.specs.Searches.{found}
use Rattle.sums.proofs.Searches.{first_at, first_none, found_some, found_none}
use Rattle.sums.proofs.Tables.{cell_lt}
use Rattle.star.specs.Refusals.{first_above}
use Rattle.star.specs.RowSearches.{above_to, RowWithin, FirstInRow}

-- ---- the number of demands above 65,535 in a row
-- a test as a number
pub from_test : (b : Bool) → from_bool b ≡ bit b
from_test true = refl
from_test false = refl

module _ (n : ℕ) (d : List ℕ) (i : ℕ) where
  pub above_none : above_to n d i 0 ≡ 0
  unfolding above_to
  above_none = sum_none _

  pub above_more : (m : ℕ) → above_to n d i (m + 1) ≡ above_to n d i m + bit (ltb 65535 (cell n d i m))
  unfolding above_to
  above_more m = sum_more m (λ j. bit (ltb 65535 (cell n d i j)))

  pub above_most : (m : ℕ) → above_to n d i m ≤ m
  unfolding above_to
  above_most m = sum_one m (λ j. bit (ltb 65535 (cell n d i j))) (λ j h. bit_most (ltb 65535 (cell n d i j)))

  -- where it is 0, no demand is above
  pub row_clear : (m : ℕ) → above_to n d i m ≡ 0 → (j : ℕ) → j < m → cell n d i j ≤ 65535
  unfolding above_to
  row_clear m e j h =
      by_lt 65535 (cell n d i j)
      (λ over.
      let one : bit (ltb 65535 (cell n d i j)) ≡ 1 = ap bit (lt-ltb 65535 (cell n d i j) over) in
      absurd (omega (arith, sum_at m (λ j. bit (ltb 65535 (cell n d i j))) j h)))
      (λ under. under)

-- ---- row after row
module _ (n : ℕ) (d : List ℕ) (i : ℕ) (clear : (p : ℕ) → p < i * n → get_or d p 0 ≤ 65535) where
  -- the first demands of row i, in row order
  clear_to : (j : ℕ) → ((v : ℕ) → v < j → cell n d i v ≤ 65535) → (p : ℕ) → p < i * n + j → get_or d p 0 ≤ 65535
  unfolding cell
  clear_to j row p h =
      by_lt p (i * n)
      (λ lt. clear p lt)
      (λ le.
      let at : i * n + (p - i * n) ≡ p = omega arith in
      rw at at (row (p - i * n) (omega arith)))

  pub clear_more : RowWithin n d i → (p : ℕ) → p < (i + 1) * n → get_or d p 0 ≤ 65535
  clear_more within p h = clear_to n within p (omega (arith, add-mul i 1 n))

  pub found_in_row : (j : ℕ) → i < n → FirstInRow n d i j → Some (i * n + j) ≡ found (n * n) (first_above n d)
  unfolding first_above cell
  found_in_row j hi f =
      let inside = cell_lt n i j hi f.inside in
      rw (first_at _ (n * n) (i * n + j) inside
      (λ p h. le-ltb 65535 (get_or d p 0) (clear_to j f.before p h))
      (lt-ltb 65535 (get_or d (i * n + j) 0) f.here)) (sym (found_some (n * n) (i * n + j) inside))

  pub found_in_none : i ≡ n → None ≡ found (n * n) (first_above n d)
  unfolding first_above
  found_in_none e =
      let all = first_none _ (n * n) (λ p h. le-ltb 65535 (get_or d p 0) (clear p (omega (arith, ap (λ x. x * n) e)))) in
      sym (found_none (n * n) _ (le_of_eq (sym all)))
