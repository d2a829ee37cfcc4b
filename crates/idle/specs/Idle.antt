-- Idle slots beside the kept ones, in the kept table itself, until every line has one sum. `lack` has for each of the 2N lines what it lacks.
use Rattle.std.specs.Prelude.{ℕ, ◌+◌, ◌*◌, ◌<◌, ◌≤◌, ◌≡◌, ◌⊎◌, List, length, get_or}
use Rattle.sums.specs.Tables.{cell}
use Rattle.star.specs.Lines.{line_sum}
use Rattle.star.specs.Rooms.{Square}
use Rattle.cells.specs.Cells.{padded_in, kept_in}

-- no line is above 1,024, the most that a frame has
pub record Small (n : ℕ) (kept : List ℕ) : Type 0 where
  pub lines : (ℓ : ℕ) → ℓ < 2 * n → line_sum n kept ℓ ≤ 1024

-- each pair keeps what it did, and gets as much
pub record Loaded (n : ℕ) (kept table : List ℕ) : Type 0 where
  pub padded : (i j : ℕ) → i < n → j < n → cell n (padded_in table) i j ≡ cell n kept i j
  pub keeps : (i j : ℕ) → i < n → j < n → cell n (kept_in table) i j ≡ cell n kept i j

-- no sum is above r, and r is no more than needed
pub record LargestSum (n : ℕ) (sums : List ℕ) (r : ℕ) : Type 0 where
  pub above : (ℓ : ℕ) → ℓ < 2 * n → get_or sums ℓ 0 ≤ r
  pub tight : (b : ℕ) → ((ℓ : ℕ) → ℓ < 2 * n → get_or sums ℓ 0 ≤ b) → r ≤ b

pub record Lacking (n : ℕ) (sums lack : List ℕ) (r : ℕ) : Type 0 where
  pub all : (ℓ : ℕ) → ℓ < 2 * n → get_or sums ℓ 0 + get_or lack ℓ 0 ≡ r

-- each line's sum and what it lacks make r
pub record Lacks (n : ℕ) (x lack : List ℕ) (r : ℕ) : Type 0 where
  pub lines : (ℓ : ℕ) → ℓ < 2 * n → line_sum n (padded_in x) ℓ + get_or lack ℓ 0 ≡ r

pub record CanPad (n : ℕ) (x lack : List ℕ) : Type 0 where
  pub square : Square n x
  pub lines : 2 * n ≤ length lack
  pub r : ℕ
  pub small : r ≤ 1024
  pub lacks : Lacks n x lack r

-- the lines lack no more than before, and the pairs get no less and keep what they did
pub record Fuller (n : ℕ) (x lack x' lack' : List ℕ) : Type 0 where
  pub keeps : (r : ℕ) → Lacks n x lack r → Lacks n x' lack' r
  pub lines : (ℓ : ℕ) → ℓ < 2 * n → get_or lack' ℓ 0 ≤ get_or lack ℓ 0
  pub cells : (i j : ℕ) → i < n → j < n → cell n (padded_in x) i j ≤ cell n (padded_in x') i j
  pub kept : kept_in x' ≡ kept_in x

pub record PaddedAt (n : ℕ) (x lack x' lack' : List ℕ) (i j : ℕ) : Type 0 where
  pub fuller : Fuller n x lack x' lack'
  pub none : (get_or lack' i 0 ≡ 0) ⊎ (get_or lack' (n + j) 0 ≡ 0)

-- no line lacks any more
pub record PaddedAll (n : ℕ) (x x' lack : List ℕ) : Type 0 where
  pub lines : (r : ℕ) → Lacks n x lack r → (ℓ : ℕ) → ℓ < 2 * n → line_sum n (padded_in x') ℓ ≡ r
  pub cells : (i j : ℕ) → i < n → j < n → cell n (padded_in x) i j ≤ cell n (padded_in x') i j
  pub kept : kept_in x' ≡ kept_in x

pub record CanFill (n : ℕ) (kept : List ℕ) : Type 0 where
  pub square : Square n kept
  pub small : Small n kept

-- the matrix, and the same with idle slots: every line sums to r, the matrix's largest line sum
pub record Padded (n : ℕ) (kept table : List ℕ) (r : ℕ) : Type 0 where
  pub lines : (ℓ : ℕ) → ℓ < 2 * n → line_sum n (padded_in table) ℓ ≡ r
  pub cells : (i j : ℕ) → i < n → j < n → cell n kept i j ≤ cell n (padded_in table) i j
  pub keeps : (i j : ℕ) → i < n → j < n → cell n (kept_in table) i j ≡ cell n kept i j
  pub tight : (b : ℕ) → ((ℓ : ℕ) → ℓ < 2 * n → line_sum n kept ℓ ≤ b) → r ≤ b
