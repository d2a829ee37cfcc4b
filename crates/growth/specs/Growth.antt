-- A matrix `a` that grows below its bound, and the headroom of its lines: what each may still take. `headroom` has one number for each of the 2N lines.
use Rattle.std.specs.Prelude.{ℕ, ◌+◌, ◌*◌, ◌≤◌, ◌<◌, ◌≡◌, List, get_or, eqb}
use Rattle.sums.specs.Sums.{sum_to, gate}
use Rattle.sums.specs.Tables.{cell}
use Rattle.star.specs.Lines.{line_sum}
use Rattle.star.specs.Rooms.{Square}

-- a matrix below its bound
pub record Below (n : ℕ) (bound a : List ℕ) : Type 0 where
  pub bounds : Square n bound
  pub cells : Square n a
  pub below : (i j : ℕ) → i < n → j < n → cell n a i j ≤ cell n bound i j

-- what a line has and may still take: its ceiling
unfoldable pub span : (n : ℕ) (a headroom : List ℕ) (ℓ : ℕ) → ℕ
span n a headroom ℓ = line_sum n a ℓ + get_or headroom ℓ 0

-- each line's sum and headroom together did not change
pub record SpansKept (n : ℕ) (a headroom a' headroom' : List ℕ) : Type 0 where
  pub spans : (ℓ : ℕ) → ℓ < 2 * n → span n a' headroom' ℓ ≡ span n a headroom ℓ

-- what all rows may still take
unfoldable pub row_headroom : (n : ℕ) (headroom : List ℕ) → ℕ
row_headroom n headroom = sum_to n (λ i. get_or headroom i 0)

-- x on line t, and 0 on every other line
unfoldable pub only : (ℓ t x : ℕ) → ℕ
only ℓ t x = gate (eqb ℓ t) x
