-- Lines and slack. `n` is N, `cap` a table with the capacity of each of the 2N lines in line order, `d` a matrix of n * n cells.
use Rattle.std.specs.Prelude.{ℕ, suc, ◌+◌, ◌-◌, ◌*◌, ◌≤◌, ◌<◌, Bool, true, false, cond, ◌&&◌, List, get_or, replicate, ltb, ℤ, pos, negsuc}
use Rattle.std.proofs.Math.IntN.{sub_ℕ}
use Rattle.sums.specs.Sums.{sum_to}
use Rattle.sums.specs.Tables.{cell}

-- Lines 0 to N−1 are the rows; line N+j is column j.
-- The t-th pair of a line has this source ..
unfoldable pub source_on : (n ℓ t : ℕ) → ℕ
source_on n ℓ t = cond (ltb ℓ n) ℓ t

-- .. and this destination.
unfoldable pub destination_on : (n ℓ t : ℕ) → ℕ
destination_on n ℓ t = cond (ltb ℓ n) t (ℓ - n)

-- the line that crosses line ℓ at its t-th pair
unfoldable pub crossing : (n ℓ t : ℕ) → ℕ
crossing n ℓ t = cond (ltb ℓ n) (n + t) t

-- Matrices are row-major: pair (i,j) is cell i×N+j. Here the cell of the t-th pair of a line.
unfoldable pub on_line : (n : ℕ) (d : List ℕ) (ℓ t : ℕ) → ℕ
on_line n d ℓ t = cell n d (source_on n ℓ t) (destination_on n ℓ t)

-- the sum of a line
unfoldable pub line_sum : (n : ℕ) (d : List ℕ) (ℓ : ℕ) → ℕ
line_sum n d ℓ = sum_to n (λ t. on_line n d ℓ t)

-- the sum of all cells of a matrix
unfoldable pub total : (n : ℕ) (d : List ℕ) → ℕ
total n d = sum_to n (λ i. sum_to n (λ j. cell n d i j))

-- where every line may fill the frame, each of the 2N capacities is L
unfoldable pub whole_frame : (n l : ℕ) → List ℕ
whole_frame n l = replicate (2 * n) l

-- The slack of a line is L minus its sum, a signed number; for L stands the line's capacity.
unfoldable pub slack : (n : ℕ) (cap d : List ℕ) (ℓ : ℕ) → ℤ
slack n cap d ℓ = sub_ℕ (get_or cap ℓ 0) (line_sum n d ℓ)

abbrev pub negative : ℤ → Bool
negative (pos k) = false
negative (negsuc k) = true

-- A line overflows when its slack is negative; sum equal to L does not overflow.
unfoldable pub overflows : (n : ℕ) (cap d : List ℕ) (ℓ : ℕ) → Bool
overflows n cap d ℓ = negative (slack n cap d ℓ)

-- minus a slack where that is negative, and 0 elsewhere
abbrev pub excess_of : ℤ → ℕ
excess_of (pos k) = 0
excess_of (negsuc k) = suc k

-- The excess is minus the slack of an overflowing line; any other line has excess 0.
unfoldable pub excess : (n : ℕ) (cap d : List ℕ) (ℓ : ℕ) → ℕ
excess n cap d ℓ = excess_of (slack n cap d ℓ)

-- A pair is critical when its row and its column both overflow in D.
unfoldable pub critical : (n : ℕ) (cap d : List ℕ) (i j : ℕ) → Bool
critical n cap d i j = overflows n cap d i && overflows n cap d (n + j)

-- A matrix is admissible: no line above L (its capacity).
pub record Admissible (n : ℕ) (cap k : List ℕ) : Type 0 where
  pub lines : (ℓ : ℕ) → ℓ < 2 * n → line_sum n k ℓ ≤ get_or cap ℓ 0
