-- The sums of all lines in a list, and how far they are made, in one pass over the rows.
use Rattle.std.specs.Prelude.{ℕ, ◌+◌, ◌*◌, ◌≤◌, ◌<◌, ◌≡◌, List, get_or}
use Rattle.sums.specs.Sums.{sum_to}
use Rattle.sums.specs.Tables.{cell}
use Rattle.star.specs.Lines.{line_sum}

-- each line has its sum at its own number
pub record Summed (n : ℕ) (table sums : List ℕ) : Type 0 where
  pub lines : (ℓ : ℕ) → ℓ < 2 * n → get_or sums ℓ 0 ≡ line_sum n table ℓ

-- the first m columns have no sum yet
pub record Unsummed (n : ℕ) (sums : List ℕ) (m : ℕ) : Type 0 where
  pub columns : (v : ℕ) → v < m → get_or sums (n + v) 0 ≡ 0

-- the rows before row i are summed, and of row i the cells before column j are in their columns' sums
pub record SummedTo (n : ℕ) (table sums : List ℕ) (i j : ℕ) : Type 0 where
  pub rows : (u : ℕ) → u < i → get_or sums u 0 ≡ line_sum n table u
  pub passed : (v : ℕ) → v < j → get_or sums (n + v) 0 ≡ sum_to (i + 1) (λ u. cell n table u v)
  pub ahead : (v : ℕ) → j ≤ v → v < n → get_or sums (n + v) 0 ≡ sum_to i (λ u. cell n table u v)
