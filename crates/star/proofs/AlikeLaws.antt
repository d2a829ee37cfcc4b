-- Tables that are alike as far as they are needed read alike: cells, the first demand above the limit, line sums, slacks, excesses, critical pairs.
-- Assumes nothing.
use Prim.Native.Nat.{ℕ, ◌+◌, ◌*◌, ◌≤◌, ◌<◌}
use native.Mathlib.Omega.{arith}
use mathlib.Core.Path.{◌≡◌, sym, ◌∙◌, ap, ap₂}
use mathlib.Core.Bool.{◌&&◌}
use mathlib.Core.List.{List}
use lib.ListN.{get_or, take}
use lib.Dec.{ltb}
use lib.Seq.{get_or-take}
use borrow.Author.Tests.{le-ltb}
use lib.IntN.{sub_ℕ}
use Rattle.sums.specs.Tables.{cell}
use Rattle.sums.proofs.Searches.{first_ext}
use Rattle.sums.proofs.Tables.{cell_lt}
use Rattle.star.specs.Tables.{Alike}
use Rattle.star.specs.Refusals.{first_above}
use Rattle.star.specs.Lines.{slack, overflows, excess, critical, negative, excess_of}
use Rattle.star.proofs.LineLaws.{line_ext}

pub same_first : (m : ℕ) (d e : List ℕ) → take m d ≡ take m e → (p : ℕ) → p < m → get_or d p 0 ≡ get_or e p 0
same_first m d e same p lt = sym (get_or-take m d p 0 lt) ∙ ap (λ x. get_or x p 0) same ∙ get_or-take m e p 0 lt

pub alike_at : {m : ℕ} {d e : List ℕ} → Alike m d e → (p : ℕ) → p < m → get_or d p 0 ≡ get_or e p 0
alike_at {m} {d} {e} same = same_first m d e same.cells

module _ (n : ℕ) {d e : List ℕ} (same : Alike (n * n) d e) where
  pub alike_cell : (i j : ℕ) → i < n → j < n → cell n d i j ≡ cell n e i j
  unfolding cell
  alike_cell i j hi hj = alike_at same (i * n + j) (cell_lt n i j hi hj)

  pub alike_above : first_above n d ≡ first_above n e
  unfolding first_above
  alike_above = first_ext (n * n) _ _ (λ q lt. ap (ltb 65535) (alike_at same q lt))

-- a check of a length that both pass
pub both_long : {m room₁ room₂ : ℕ} → m ≤ room₁ → m ≤ room₂ → ltb room₁ m ≡ ltb room₂ m
both_long p q = le-ltb _ _ p ∙ sym (le-ltb _ _ q)

-- ---- matrices that agree at each pair
module _ (n : ℕ) (cap d e : List ℕ) (same : (i j : ℕ) → i < n → j < n → cell n d i j ≡ cell n e i j) where
  module _ (ℓ : ℕ) (h : ℓ < 2 * n) where
    pub slack_ext : slack n cap d ℓ ≡ slack n cap e ℓ
    unfolding slack
    slack_ext = ap (sub_ℕ (get_or cap ℓ 0)) (line_ext n d e same ℓ h)

    pub overflows_ext : overflows n cap d ℓ ≡ overflows n cap e ℓ
    unfolding overflows
    overflows_ext = ap negative slack_ext

    pub excess_ext : excess n cap d ℓ ≡ excess n cap e ℓ
    unfolding excess
    excess_ext = ap excess_of slack_ext

  pub critical_ext : (i j : ℕ) → i < n → j < n → critical n cap d i j ≡ critical n cap e i j
  unfolding critical
  critical_ext i j hi hj = ap₂ ◌&&◌ (overflows_ext i (omega arith)) (overflows_ext (n + j) (omega arith))
