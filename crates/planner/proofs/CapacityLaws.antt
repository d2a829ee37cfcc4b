-- Both rules read the capacities only line by line: capacities that agree on each of the 2N lines are kept alike. Assumes nothing.
use Prim.Native.Nat.{ℕ, zero, suc, ◌+◌, ◌-◌, ◌*◌, ◌≤◌, ◌<◌}
use native.Mathlib.Omega.{arith}
use mathlib.Core.Path.{◌≡◌, refl, ◌∙◌, ap, ap₂}
use mathlib.Core.Bool.{cond, ◌||◌}
use mathlib.Core.List.{List}
use lib.ListN.{get_or, set}
use lib.Dec.{ltb, leb}
use borrow.Author.Tests.{le-ltb, le-leb}
use Rattle.sums.specs.Tables.{square}
use Rattle.sums.proofs.Cases.{by_lt}
use Rattle.star.specs.Lines.{line_sum}
use Rattle.fair.specs.Fair.{Cutting, modified_sum, unmodified_sum, numerator, exceeds, smaller, taken, cut_cell, cut_line, step, steps, uncut, fair_kept}
use Rattle.least.specs.Least.{longer, share, remainder, missing, before, rank, shared, kept_cell}
use Rattle.planner.proofs.NeededLaws.{rule_ext}

module _ (n : ℕ) (cap other : List ℕ) (level : (ℓ : ℕ) → ℓ < 2 * n → get_or cap ℓ 0 ≡ get_or other ℓ 0) where
  -- ---- the fair rule
  module _ (s : Cutting) where
    numerator_level : (ℓ : ℕ) → ℓ < 2 * n → numerator n cap s ℓ ≡ numerator n other s ℓ
    unfolding numerator
    numerator_level ℓ h = ap (λ c. c - modified_sum n s ℓ) (level ℓ h)

    exceeds_level : (ℓ : ℕ) → ℓ < 2 * n → exceeds n cap s ℓ ≡ exceeds n other s ℓ
    unfolding exceeds
    exceeds_level ℓ h = ap (λ c. ltb c (line_sum n s.values ℓ)) (level ℓ h)

    -- a line before which one is taken, or none
    taken_before : (m t : ℕ) → m < 2 * n → (leb (2 * n) t || smaller n cap s m t) ≡ (leb (2 * n) t || smaller n other s m t)
    unfolding smaller
    taken_before m t h =
        by_lt t (2 * n)
        (λ p. ap (λ b. leb (2 * n) t || b) (ap₂ (λ x y. ltb (x * unmodified_sum n s t) (y * unmodified_sum n s m)) (numerator_level m h) (numerator_level t p)))
        (λ p. rw (le-leb (2 * n) t p) refl)

    taken_level : (m : ℕ) → m ≤ 2 * n → taken n cap s m ≡ taken n other s m
    unfolding taken
    taken_level zero h = refl
    taken_level (suc m) h =
        let t : ℕ = taken n other s m in
        rw (taken_level m (omega arith), exceeds_level m (omega arith))
        (ap (λ b. cond (exceeds n other s m) (cond b m t) t) (taken_before m t (omega arith)))

    cut_level : (ℓ : ℕ) → ℓ < 2 * n → cut_line n cap s ℓ ≡ cut_line n other s ℓ
    unfolding cut_line cut_cell
    cut_level ℓ h =
        ap (λ v. record { values = v; done = set s.done ℓ 1 }) (rule_ext n (cut_cell n cap s ℓ) (cut_cell n other s ℓ) (λ i j hi hj. rw (numerator_level ℓ h) refl))

    step_level : step n cap s ≡ step n other s
    unfolding step
    step_level =
        let t : ℕ = taken n other s (2 * n) in
        rw (taken_level (2 * n) (omega arith))
        (by_lt t (2 * n)
        (λ p. ap (λ x. cond (ltb t (2 * n)) x s) (cut_level t p))
        (λ p. rw (le-ltb t (2 * n) p) refl))

  steps_level : (s : Cutting) (m : ℕ) → steps n cap s m ≡ steps n other s m
  unfolding steps
  steps_level s zero = refl
  steps_level s (suc m) = ap (step n cap) (steps_level s m) ∙ step_level (steps n other s m)

  pub fair_level : (d : List ℕ) → fair_kept n cap d ≡ fair_kept n other d
  unfolding fair_kept
  fair_level d = ap (λ s. s.values) (steps_level (uncut n d) (2 * n))

  -- ---- the least rule
  pub kept_level : (e : List ℕ) → square n (kept_cell n cap e) ≡ square n (kept_cell n other e)
  unfolding kept_cell longer shared share remainder missing rank before
  kept_level e = rule_ext n (kept_cell n cap e) (kept_cell n other e) (λ i j hi hj. rw (level i (omega arith), level (n + j) (omega arith)) refl)
