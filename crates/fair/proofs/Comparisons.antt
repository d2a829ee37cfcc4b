-- The choice of the next line from the tables a and b: a line's sum is a + b, and its fraction (L−b)/a, in every state with these sums. By the definitions. Assumes nothing.
use Prim.Native.Nat.{ℕ, ◌+◌, ◌-◌, ◌*◌, ◌≤◌, ◌<◌}
use native.Mathlib.Nat.{mul-le-mul}
use native.Mathlib.Numerals.{add-one}
use native.Mathlib.Omega.{arith}
use mathlib.Core.Path.{◌≡◌, refl, sym, ap, ap₂, ◌∙◌}
use mathlib.Core.Bool.{Bool, true, false, cond}
use mathlib.Core.List.{List}
use lib.ListN.{get_or}
use lib.Dec.{ltb}
use borrow.Author.Tests.{lt-ltb, le-ltb, le-leb, lt-leb}
use Rattle.fair.specs.Fair.{Cutting, numerator, exceeds, smaller, taken}
use Rattle.fair.specs.Cuts.{Counted, Comparable, Ahead, NextLine}
use Rattle.fair.proofs.LineCuts.{line_split}
use Rattle.fair.proofs.Choices.{taken_more}

module _ (n : ℕ) (cap a b : List ℕ) where
  module _ (s : Cutting) (k : Counted n s a b) where
    exceeds_is : (m : ℕ) → m < 2 * n → exceeds n cap s m ≡ ltb (get_or cap m 0) (get_or a m 0 + get_or b m 0)
    unfolding exceeds
    exceeds_is m hm = ap (ltb (get_or cap m 0)) (line_split n s m ∙ sym (ap₂ ◌+◌ (k.unmodified m hm) (k.modified m hm)))

    smaller_is : (m p : ℕ) → m < 2 * n → p < 2 * n → smaller n cap s m p ≡ ltb ((get_or cap m 0 - get_or b m 0) * get_or a p 0) ((get_or cap p 0 - get_or b p 0) * get_or a m 0)
    unfolding smaller numerator
    smaller_is m p hm hp = rw (k.unmodified m hm, k.unmodified p hp, k.modified m hm, k.modified p hp) refl

  module _ (m p : ℕ) (hm : m < 2 * n) where
    pub ahead_under : get_or a m 0 + get_or b m 0 ≤ get_or cap m 0 → Ahead n cap a b m p false
    ahead_under h = record { is = λ s k. rw (exceeds_is s k m hm, le-ltb (get_or cap m 0) (get_or a m 0 + get_or b m 0) h) refl }

    module _ (over : get_or cap m 0 < get_or a m 0 + get_or b m 0) where
      pub ahead_first : 2 * n ≤ p → Ahead n cap a b m p true
      ahead_first h = record { is = λ s k. rw (exceeds_is s k m hm, lt-ltb (get_or cap m 0) (get_or a m 0 + get_or b m 0) over, le-leb (2 * n) p h) refl }

      pub ahead_smaller : p < 2 * n → Ahead n cap a b m p (ltb ((get_or cap m 0 - get_or b m 0) * get_or a p 0) ((get_or cap p 0 - get_or b p 0) * get_or a m 0))
      ahead_smaller h = record { is = λ s k. rw (exceeds_is s k m hm, lt-ltb (get_or cap m 0) (get_or a m 0 + get_or b m 0) over, lt-leb (2 * n) p h, smaller_is s k m p hm h) refl }

  -- a cross product fits in 32 bits
  pub product_fits : Comparable n cap a b → (m p : ℕ) → m < 2 * n → p < 2 * n → (get_or cap m 0 - get_or b m 0) * get_or a p 0 ≤ 1024 * 4194240
  product_fits h m p hm hp = mul-le-mul {n₂ = 1024} {m₂ = 4194240} (omega (arith, h.capacities.most m hm)) (omega (arith, h.most p hp))

  -- ---- the search
  pub next_start : NextLine n cap a b 0 (2 * n)
  unfolding taken
  next_start = record { is = λ s k. refl }

  module _ {m p : ℕ} (x : NextLine n cap a b m p) where
    next_more : (r : Bool) → Ahead n cap a b m p r → (s : Cutting) → Counted n s a b → cond r m p ≡ taken n cap s (m + 1)
    next_more r y s k = rw (add-one m, taken_more n cap s m, sym (x.is s k), sym (y.is s k)) refl

    pub next_ahead : Ahead n cap a b m p true → NextLine n cap a b (m + 1) m
    next_ahead y = record { is = next_more true y }

    pub next_behind : Ahead n cap a b m p false → NextLine n cap a b (m + 1) p
    next_behind y = record { is = next_more false y }
