-- The slots that a conflict-free schedule gives are admissible where every line may fill the frame: in each slot a source is heard at most
-- once and a destination hears at most one source, so each slot adds at most 1 to a line; the two sums are exchanged. Assumes nothing.
use Prim.Native.Nat.{ℕ, ◌+◌, ◌-◌, ◌≤◌, ◌<◌}
use native.Mathlib.Omega.{arith}
use mathlib.Core.Path.{◌≡◌, sym, ◌∙◌}
use mathlib.Core.List.{List}
use Rattle.sums.specs.Sums.{sum_to, hit}
use Rattle.sums.specs.Tables.{cell, square}
use Rattle.sums.proofs.Sums.{sum_ext, sum_swap, sum_one, sum_once, sum_hit_most}
use Rattle.sums.proofs.Cases.{by_lt}
use Rattle.sums.proofs.Tables.{square_cell}
use Rattle.star.specs.Lines.{line_sum, whole_frame, Admissible}
use Rattle.star.specs.Schedules.{ConflictFree, count}
use Rattle.star.proofs.LineLaws.{row_sum, column_sum, capacity}

module _ {n l : ℕ} {s : List ℕ} (f : ConflictFree n l s) where
  row_count : (i : ℕ) → i < n → line_sum n (square n (count n l s)) i ≤ l
  unfolding count
  row_count i p =
      let same : line_sum n (square n (count n l s)) i ≡ sum_to l (λ k. sum_to n (λ j. hit (cell n s k j) i))
      = row_sum n _ i p ∙ sum_ext n _ _ (λ j q. square_cell n (count n l s) i j p q) ∙ sum_swap n l (λ j k. hit (cell n s k j) i) in
      rw same
      (sum_one l (λ k. sum_to n (λ j. hit (cell n s k j) i)) (λ k h.
      sum_once n i (λ j. cell n s k j) (λ j v hj hv ej ev. f.once k j v h hj hv (omega arith) (ej ∙ sym ev))))

  column_count : (j : ℕ) → j < n → line_sum n (square n (count n l s)) (n + j) ≤ l
  unfolding count
  column_count j q =
      let same : line_sum n (square n (count n l s)) (n + j) ≡ sum_to l (λ k. sum_to n (λ i. hit (cell n s k j) i))
      = column_sum n _ j ∙ sum_ext n _ _ (λ i p. square_cell n (count n l s) i j p q) ∙ sum_swap n l (λ i k. hit (cell n s k j) i) in
      rw same (sum_one l (λ k. sum_to n (λ i. hit (cell n s k j) i)) (λ k h. sum_hit_most n (cell n s k j)))

  pub counts_admissible : Admissible n (whole_frame n l) (square n (count n l s))
  counts_admissible = record {
    lines = λ ℓ h.
        rw (capacity n l ℓ h)
        (by_lt ℓ n
        (λ p. row_count ℓ p)
        (λ p.
        let at : n + (ℓ - n) ≡ ℓ = omega arith in
        rw at at (column_count (ℓ - n) (omega arith))));
  }
