-- A certificate that computes, for worked examples: whether a matrix is feasible is tested cell by cell and line by line, and a feasible
-- matrix whose total is the cut of some marks is the largest. An example gives `refl` twice to `meets_cut`, under
-- `unfolding feasible? below? lines? all_below sum_to total cut line_sum on_line source_on destination_on cell`. Assumes nothing.
use Prim.Native.Nat.{ℕ, ◌*◌}
use native.Mathlib.Omega.{arith}
use mathlib.Core.Path.{◌≡◌}
use mathlib.Core.Bool.{Bool, true, ◌&&◌}
use mathlib.Core.List.{List}
use lib.ListN.{get_or}
use lib.Dec.{leb, eqb}
use borrow.Author.Tests.{eqb-true, leb-true}
use Rattle.sums.specs.Tables.{cell}
use Rattle.sums.proofs.Searches.{both_first, both_second, all_below, all_at}
use Rattle.star.specs.Lines.{line_sum, total}
use Rattle.flow.specs.Flows.{Feasible, Largest, cut}
use Rattle.flow.proofs.Duality.{within_cut}

module _ (n : ℕ) (bound ceiling a : List ℕ) where
  -- the two parts of being feasible, and both
  unfoldable pub below? : Bool
  below? = all_below n (λ i. all_below n (λ j. leb (cell n a i j) (cell n bound i j)))

  unfoldable pub lines? : Bool
  lines? = all_below (2 * n) (λ ℓ. leb (line_sum n a ℓ) (get_or ceiling ℓ 0))

  unfoldable pub feasible? : Bool
  feasible? = below? && lines?

  pub feasible_is : feasible? ≡ true → Feasible n bound ceiling a
  unfolding feasible? below? lines?
  feasible_is e = record {
    below = λ i j p q. leb-true _ _ (all_at n (λ j. leb (cell n a i j) (cell n bound i j)) (all_at n (λ i. all_below n (λ j. leb (cell n a i j) (cell n bound i j))) (both_first below? lines? e) i p) j q);
    lines = λ ℓ p. leb-true _ _ (all_at (2 * n) (λ ℓ. leb (line_sum n a ℓ) (get_or ceiling ℓ 0)) (both_second below? lines? e) ℓ p);
  }

  -- the total of a feasible matrix is that of a cut: both compute
  pub meets_cut : (marks : List ℕ) → feasible? ≡ true → eqb (total n a) (cut n bound ceiling marks) ≡ true → Largest n bound ceiling a
  meets_cut marks f e = record { feasible = feasible_is f; most = λ b g. omega (arith, within_cut n bound ceiling b marks g, eqb-true (total n a) (cut n bound ceiling marks) e) }
