-- Lines that cross: a pair lies on two lines, its row and its column; two lines either run beside each other or meet in one pair. By the cases row and column. Assumes nothing.
use Prim.Native.Nat.{ℕ, ◌+◌, ◌-◌, ◌*◌, ◌≤◌, ◌<◌}
use native.Mathlib.Omega.{arith}
use mathlib.Core.Path.{◌≡◌, refl, sym, ◌∙◌}
use mathlib.Core.Bool.{Bool, ◌||◌, or_comm}
use mathlib.Core.Logic.{◌⊎◌, inl, inr}
use borrow.Author.Tests.{lt-ltb, le-ltb}
use Rattle.sums.proofs.Cases.{by_lt}
use Rattle.star.specs.Lines.{source_on, destination_on, crossing}

-- ---- rows and columns apart
module _ (n ℓ t : ℕ) where
  pub source_row : ℓ < n → source_on n ℓ t ≡ ℓ
  unfolding source_on
  source_row h = simp (lt-ltb ℓ n h)

  pub source_column : n ≤ ℓ → source_on n ℓ t ≡ t
  unfolding source_on
  source_column h = simp (le-ltb ℓ n h)

  pub destination_row : ℓ < n → destination_on n ℓ t ≡ t
  unfolding destination_on
  destination_row h = simp (lt-ltb ℓ n h)

  pub destination_column : n ≤ ℓ → destination_on n ℓ t ≡ ℓ - n
  unfolding destination_on
  destination_column h = simp (le-ltb ℓ n h)

  pub crossing_row : ℓ < n → crossing n ℓ t ≡ n + t
  unfolding crossing
  crossing_row h = simp (lt-ltb ℓ n h)

  pub crossing_column : n ≤ ℓ → crossing n ℓ t ≡ t
  unfolding crossing
  crossing_column h = simp (le-ltb ℓ n h)

  pub crossing_lt : ℓ < 2 * n → t < n → crossing n ℓ t < 2 * n
  crossing_lt hl ht = by_lt ℓ n (λ h. omega (arith, crossing_row h)) (λ h. omega (arith, crossing_column h))

  -- no line crosses itself
  pub crossing_other : t < n → crossing n ℓ t ≡ ℓ → ⊥
  crossing_other ht e = by_lt ℓ n (λ h. omega (arith, crossing_row h)) (λ h. omega (arith, crossing_column h))

  -- the two lines of the t-th pair of line ℓ are ℓ and the line that crosses there
  pub pair_lines : (f : ℕ → Bool) → (f (source_on n ℓ t) || f (n + destination_on n ℓ t)) ≡ (f ℓ || f (crossing n ℓ t))
  pair_lines f =
      by_lt ℓ n
      (λ h. rw (source_row h, destination_row h, crossing_row h) refl)
      (λ h. let e : n + (ℓ - n) ≡ ℓ = omega arith in rw (source_column h, destination_column h, crossing_column h, e) (or_comm (f t) (f ℓ)))

-- each line crosses ℓ at one pair
pub crossing_once : (n ℓ t u : ℕ) → crossing n ℓ t ≡ crossing n ℓ u → t ≡ u
crossing_once n ℓ t u e =
    by_lt ℓ n
    (λ h. omega (arith, crossing_row n ℓ t h, crossing_row n ℓ u h))
    (λ h. omega (arith, crossing_column n ℓ t h, crossing_column n ℓ u h))

-- ---- two lines
-- line m is the line that crosses ℓ at its pair w, and ℓ the one that crosses m at its pair y: they are the same pair
pub record Meet (n ℓ m : ℕ) : Type 0 where
  pub w : ℕ
  pub y : ℕ
  pub within : (w < n) × (y < n)
  pub there : crossing n ℓ w ≡ m
  pub here : crossing n m y ≡ ℓ
  pub source : source_on n m y ≡ source_on n ℓ w
  pub destination : destination_on n m y ≡ destination_on n ℓ w

-- both are rows, or both are columns
pub record Beside (n ℓ m : ℕ) : Type 0 where
  pub there : (t : ℕ) → t < n → crossing n ℓ t ≡ m → ⊥
  pub here : (t : ℕ) → t < n → crossing n m t ≡ ℓ → ⊥

pub two_lines : (n ℓ m : ℕ) → ℓ < 2 * n → m < 2 * n → Meet n ℓ m ⊎ Beside n ℓ m
two_lines n ℓ m hl hm =
    by_lt ℓ n
    (λ hr. by_lt m n
    (λ h. inr (record {
      there = λ t ht e. omega (arith, crossing_row n ℓ t hr);
      here = λ t ht e. omega (arith, crossing_row n m t h);
    }))
    (λ h. inl (record {
      w = m - n;
      y = ℓ;
      within = (omega arith, omega arith);
      there = omega (arith, crossing_row n ℓ (m - n) hr);
      here = crossing_column n m ℓ h;
      source = source_column n m ℓ h ∙ sym (source_row n ℓ (m - n) hr);
      destination = destination_column n m ℓ h ∙ sym (destination_row n ℓ (m - n) hr);
    })))
    (λ hc. by_lt m n
    (λ h. inl (record {
      w = m;
      y = ℓ - n;
      within = (omega arith, omega arith);
      there = crossing_column n ℓ m hc;
      here = omega (arith, crossing_row n m (ℓ - n) h);
      source = source_row n m (ℓ - n) h ∙ sym (source_column n ℓ m hc);
      destination = destination_row n m (ℓ - n) h ∙ sym (destination_column n ℓ m hc);
    }))
    (λ h. inr (record {
      there = λ t ht e. omega (arith, crossing_column n ℓ t hc);
      here = λ t ht e. omega (arith, crossing_column n m t h);
    })))
