-- Schedules that are conflict-free within capacities, by the slots that they give each pair: a slot counts once for a source that is heard in it and once
-- for a destination that hears in it, so the lines of the counts say in how many slots each is heard or hears; the two sums are exchanged. The laws
-- assume nothing.
use Prim.Native.Nat.{ℕ, zero, suc, ◌+◌, ◌-◌, ◌*◌, ◌≤◌, ◌<◌}
use native.Mathlib.Omega.{arith}
use mathlib.Core.Path.{◌≡◌, refl, sym, ◌∙◌, ap}
use mathlib.Core.Bool.{Bool, true, false, ◌||◌}
use mathlib.Core.List.{List}
use lib.Dec.{ltb, eqb}
use lib.ListN.{get_or}
use borrow.Author.Tests.{lt-ltb, le-ltb, eq-eqb, ne_eqb}
use Rattle.sums.specs.Sums.{sum_to, bit, hit}
use Rattle.sums.specs.Searches.{some_below}
use Rattle.sums.specs.Tables.{cell, square}
use Rattle.sums.proofs.Cases.{by_lt, by_eq}
use Rattle.sums.proofs.Sums.{sum_ext, sum_swap, sum_one, sum_hit, sum_all_zero, hit_same, hit_other}
use Rattle.sums.proofs.Gates.{bit_most}
use Rattle.sums.proofs.Searches.{some_at}
use Rattle.sums.proofs.Tables.{square_cell}
use Rattle.star.specs.Lines.{line_sum, Admissible}
use Rattle.star.specs.Schedules.{ConflictFree, ConflictFreeWithin, Carries, count, heard_in, hears_in}
use Rattle.star.proofs.LineLaws.{row_sum, column_sum, line_ext}

or_false : (b : Bool) → (b || false) ≡ b
or_false true = refl
or_false false = refl

-- what hits i at most once hits it somewhere or not at all
sum_some : (n i : ℕ) (x : ℕ → ℕ) → ((k m : ℕ) → k < n → m < n → x k ≡ i → x m ≡ i → k ≡ m) → sum_to n (λ k. hit (x k) i) ≡ bit (some_below n (λ k. eqb (x k) i))
unfolding sum_to some_below
sum_some zero i x one = refl
sum_some (suc n) i x one =
    by_eq (x n) i
    (λ e.
    let none : sum_to n (λ k. hit (x k) i) ≡ 0 = sum_all_zero n (λ k. hit (x k) i) (λ k h. hit_other (λ q. let s : k ≡ n = one k n (omega arith) (omega arith) q e in omega arith)) in
    let some : bit (some_below (suc n) (λ k. eqb (x k) i)) ≡ 1 = ap bit (some_at (λ k. eqb (x k) i) (suc n) n (omega arith) (eq-eqb (x n) i e)) in
    omega (arith, none, hit_same e, some))
    (λ ne.
    let rest = sum_some n i x (λ k m p q. one k m (omega arith) (omega arith)) in
    let last : (some_below n (λ k. eqb (x k) i) || eqb (x n) i) ≡ some_below n (λ k. eqb (x k) i) = rw (ne_eqb (x n) i ne) (or_false _) in
    omega (arith, rest, hit_other ne, ap bit last))

-- one source among the first n, or none
sum_known : (n x : ℕ) → sum_to n (λ k. hit x k) ≡ bit (ltb x n)
sum_known n x =
    by_lt x n
    (λ h. sum_hit n x h ∙ sym (ap bit (lt-ltb x n h)))
    (λ h. sum_all_zero n (λ k. hit x k) (λ k p. hit_other (λ q. omega arith)) ∙ sym (ap bit (le-ltb x n h)))

module _ {n l : ℕ} {s : List ℕ} (f : ConflictFree n l s) where
  row_counts : (i : ℕ) → i < n → line_sum n (square n (count n l s)) i ≡ heard_in n l s i
  unfolding count heard_in
  row_counts i p =
      row_sum n _ i p
      ∙ sum_ext n _ _ (λ j q. square_cell n (count n l s) i j p q)
      ∙ sum_swap n l (λ j k. hit (cell n s k j) i)
      ∙ sum_ext l _ _ (λ k h. sum_some n i (λ j. cell n s k j) (λ j v hj hv ej ev. f.once k j v h hj hv (omega arith) (ej ∙ sym ev)))

  column_counts : (j : ℕ) → j < n → line_sum n (square n (count n l s)) (n + j) ≡ hears_in n l s j
  unfolding count hears_in
  column_counts j q =
      column_sum n _ j
      ∙ sum_ext n _ _ (λ i p. square_cell n (count n l s) i j p q)
      ∙ sum_swap n l (λ i k. hit (cell n s k j) i)
      ∙ sum_ext l _ _ (λ k h. sum_known n (cell n s k j))

  -- where the counts are admissible, the schedule respects the capacities ..
  pub counts_within : {cap : List ℕ} → Admissible n cap (square n (count n l s)) → ConflictFreeWithin n l cap s
  counts_within a = record {
    free = f;
    sources = λ i p. omega (arith, a.lines i (omega arith), row_counts i p);
    destinations = λ j q. omega (arith, a.lines (n + j) (omega arith), column_counts j q);
  }

-- .. and the other way round
pub within_counts : {n l : ℕ} {cap s : List ℕ} → ConflictFreeWithin n l cap s → Admissible n cap (square n (count n l s))
within_counts {n} {l} {cap} {s} w = record {
  lines = λ ℓ h.
      by_lt ℓ n
      (λ p. omega (arith, w.sources ℓ p, row_counts w.free ℓ p))
      (λ p.
      let at : n + (ℓ - n) ≡ ℓ = omega arith in
      let column : line_sum n (square n (count n l s)) (n + (ℓ - n)) ≤ get_or cap (n + (ℓ - n)) 0
      = omega (arith, w.destinations (ℓ - n) (omega arith), column_counts w.free (ℓ - n) (omega arith)) in
      rw at at column);
}

-- a schedule that carries an admissible matrix respects the capacities
pub carries_within : {n l : ℕ} {cap s k : List ℕ} → Carries n l s k → Admissible n cap k → ConflictFreeWithin n l cap s
carries_within {n} {l} {cap} {s} {k} c a =
    counts_within c.free
    (record {
      lines = λ ℓ h. omega (arith, a.lines ℓ h, line_ext n (square n (count n l s)) k (λ i j p q. square_cell n (count n l s) i j p q ∙ c.exact i j p q) ℓ h);
    })

-- where each line may fill the frame, every conflict-free schedule respects the capacities
pub whole_within : {n l : ℕ} {cap s : List ℕ} → ((ℓ : ℕ) → ℓ < 2 * n → l ≤ get_or cap ℓ 0) → ConflictFree n l s → ConflictFreeWithin n l cap s
unfolding heard_in hears_in
whole_within {n} {l} {cap} {s} whole f = record {
  free = f;
  sources = λ i p. omega (arith, whole i (omega arith), sum_one l (λ k. bit (some_below n (λ j. eqb (cell n s k j) i))) (λ k h. bit_most (some_below n (λ j. eqb (cell n s k j) i))));
  destinations = λ j q. omega (arith, whole (n + j) (omega arith), sum_one l (λ k. bit (ltb (cell n s k j) n)) (λ k h. bit_most (ltb (cell n s k j) n)));
}
