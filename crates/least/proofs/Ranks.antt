-- Each cell of a line has a rank of its own, below their number, so exactly m cells have a rank below m: ranks rise strictly along the order,
-- hence no two are the same, and n different numbers below n are all of them. Assumes nothing.
use Prim.Native.Nat.{ℕ, ◌≤◌, ◌<◌}
use native.Mathlib.Omega.{arith}
use mathlib.Core.Path.{◌≡◌, refl, sym, ◌∙◌}
use mathlib.Core.Logic.{◌⊎◌, inl, inr, ⊎_elim}
use mathlib.Core.Bool.{true, false, false≢true}
use lib.Dec.{ltb}
use borrow.Author.Tests.{lt-ltb, le-ltb, eq-eqb, ne_eqb}
use Rattle.sums.specs.Sums.{sum_to, bit, hit}
use Rattle.sums.proofs.Sums.{sum_ext, sum_swap, sum_hit, sum_full, sum_one, sum_tight, sum_all_zero, hit_same, hit_other, sum_once, sum_strict}
use Rattle.sums.proofs.Cases.{by_eq, by_lt, by_test}
use Rattle.least.specs.Least.{before, rank}

module _ (r : ℕ → ℕ) where
  -- ---- the order of a line's cells
  -- a larger remainder comes first
  pub larger_before : (u t : ℕ) → r t < r u → before r u t ≡ true
  unfolding before
  larger_before u t h = rw (lt-ltb (r t) (r u) h) refl

  pub smaller_after : (u t : ℕ) → r u < r t → before r u t ≡ false
  unfolding before
  smaller_after u t h = rw (le-ltb (r t) (r u) (omega arith), ne_eqb (r u) (r t) (λ e. omega arith)) refl

  -- of equal remainders the lower index comes first
  pub lower_before : (u t : ℕ) → r u ≡ r t → u < t → before r u t ≡ true
  unfolding before
  lower_before u t e h = rw (le-ltb (r t) (r u) (omega arith), eq-eqb (r u) (r t) e, lt-ltb u t h) refl

  pub higher_after : (u t : ℕ) → r u ≡ r t → t ≤ u → before r u t ≡ false
  unfolding before
  higher_after u t e h = rw (le-ltb (r t) (r u) (omega arith), eq-eqb (r u) (r t) e, le-ltb u t h) refl

  before_cases : (u t : ℕ) → before r u t ≡ true → (r t < r u) ⊎ ((r u ≡ r t) × (u < t))
  before_cases u t e =
      by_lt (r t) (r u)
      (λ h. inl h)
      (λ h. by_eq (r u) (r t)
      (λ q. by_lt u t (λ k. inr (q, k)) (λ k. absurd (false≢true (sym (higher_after u t q k) ∙ e))))
      (λ ne. absurd (false≢true (sym (smaller_after u t (omega arith)) ∙ e))))

  before_trans : (w u t : ℕ) → before r w u ≡ true → before r u t ≡ true → before r w t ≡ true
  before_trans w u t p q =
      ⊎_elim
      (λ (a : r u < r w). ⊎_elim
      (λ (b : r t < r u). larger_before w t (omega arith))
      (λ (b : (r u ≡ r t) × (u < t)). larger_before w t (omega arith))
      (before_cases u t q))
      (λ (a : (r w ≡ r u) × (w < u)). ⊎_elim
      (λ (b : r t < r u). larger_before w t (omega arith))
      (λ (b : (r u ≡ r t) × (u < t)). lower_before w t (omega arith) (omega arith))
      (before_cases u t q))
      (before_cases w u p)

  -- of two cells one comes before the other
  before_one : (u t : ℕ) → (u ≡ t → ⊥) → (before r u t ≡ true) ⊎ (before r t u ≡ true)
  before_one u t ne =
      by_eq (r u) (r t)
      (λ e. by_lt u t (λ h. inl (lower_before u t e h)) (λ h. inr (lower_before t u (sym e) (omega arith))))
      (λ d. by_lt (r t) (r u) (λ h. inl (larger_before u t h)) (λ h. inr (larger_before t u (omega arith))))

  -- ---- ranks
  module _ (n : ℕ) where
    rank_less : (u t : ℕ) → u < n → before r u t ≡ true → rank n r u < rank n r t
    unfolding rank
    rank_less u t h e = sum_strict n u (λ w. bit (before r w u)) (λ w. bit (before r w t)) h (λ w p.
        by_eq u w
        (λ s. rw (sym s, higher_after u u refl (omega arith), hit_same {a = u} refl, e) (omega arith))
        (λ ne. by_test (before r w u)
        (λ b. rw (b, hit_other ne, before_trans w u t b e) (omega arith))
        (λ b. rw (b, hit_other ne) (omega arith))))

    pub rank_lt : (t : ℕ) → t < n → rank n r t < n
    unfolding rank
    rank_lt t h = omega (
      arith,
      sum_one n (λ w. 1) (λ w p. omega arith),
      sum_strict n t (λ w. bit (before r w t)) (λ w. 1) h (λ w p.
          by_eq t w
          (λ s. rw (sym s, higher_after t t refl (omega arith), hit_same {a = t} refl) (omega arith))
          (λ ne. by_test (before r w t)
          (λ b. rw (b, hit_other ne) (omega arith))
          (λ b. rw (b, hit_other ne) (omega arith)))),
    )

    rank_injective : (u t : ℕ) → u < n → t < n → rank n r u ≡ rank n r t → u ≡ t
    rank_injective u t hu ht e =
        by_eq u t
        (λ s. s)
        (λ ne. absurd (⊎_elim (λ b. omega (arith, rank_less u t hu b)) (λ b. omega (arith, rank_less t u ht b)) (before_one u t ne)))

    -- each number below n is the rank of one cell
    rank_taken : (k : ℕ) → k < n → sum_to n (λ t. hit (rank n r t) k) ≡ 1
    rank_taken k h = sum_tight n 1 (λ k. sum_to n (λ t. hit (rank n r t) k))
        (λ k p. sum_once n k (rank n r) (λ u t hu ht eu et. rank_injective u t hu ht (eu ∙ sym et)))
        (omega (
          arith,
          sum_full n (λ t. sum_to n (λ k. hit (rank n r t) k)) (λ t p. omega (arith, sum_hit n (rank n r t) (rank_lt t p))),
          sum_swap n n (λ t k. hit (rank n r t) k),
        ))
        k h

    -- exactly m cells have a rank below m
    pub ranks_below : (m : ℕ) → m ≤ n → sum_to n (λ t. bit (ltb (rank n r t) m)) ≡ m
    ranks_below m h =
        sum_ext n _ _ (λ t p. as_sum (rank n r t)) ∙ sum_swap n m (λ t k. hit (rank n r t) k)
        ∙ omega (
          arith,
          sum_full m (λ k. sum_to n (λ t. hit (rank n r t) k)) (λ k p. omega (arith, rank_taken k (omega arith))),
          sum_one m (λ k. sum_to n (λ t. hit (rank n r t) k)) (λ k p. omega (arith, rank_taken k (omega arith))),
        )
      where
        as_sum : (x : ℕ) → bit (ltb x m) ≡ sum_to m (λ k. hit x k)
        as_sum x = by_lt x m
            (λ p. rw (lt-ltb x m p) (sym (sum_hit m x p)))
            (λ p. rw (le-ltb x m p) (sym (sum_all_zero m (λ k. hit x k) (λ k q. hit_other (λ e. omega arith)))))

-- ranks depend on the remainders of a line's cells alone
pub rank_same : (n : ℕ) (r s : ℕ → ℕ) → ((t : ℕ) → t < n → r t ≡ s t) → (t : ℕ) → t < n → rank n r t ≡ rank n s t
unfolding rank before
rank_same n r s same t h = sum_ext n _ _ (λ u p. rw (same t h, same u p) refl)
