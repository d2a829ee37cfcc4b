-- Matrices that stay below a bound at each cell and a ceiling on each line; the largest of them; and marks, which prove that one is the largest.
-- `bound` has n * n cells, `ceiling` one for each of the 2N lines, `marks` a byte for each of the 2N lines.
use Rattle.std.specs.Prelude.{ℕ, ◌+◌, ◌*◌, ◌≤◌, ◌<◌, ◌≡◌, Bool, true, false, not, List, get_or, ltb}
use Rattle.sums.specs.Sums.{sum_to, gate}
use Rattle.sums.specs.Tables.{cell}
use Rattle.star.specs.Lines.{line_sum, total}

-- at most the bound at each cell, each line's sum at most its ceiling
pub record Feasible (n : ℕ) (bound ceiling a : List ℕ) : Type 0 where
  pub below : (i j : ℕ) → i < n → j < n → cell n a i j ≤ cell n bound i j
  pub lines : (ℓ : ℕ) → ℓ < 2 * n → line_sum n a ℓ ≤ get_or ceiling ℓ 0

-- among all such matrices its total is the greatest
pub record Largest (n : ℕ) (bound ceiling a : List ℕ) : Type 0 where
  pub feasible : Feasible n bound ceiling a
  pub most : (b : List ℕ) → Feasible n bound ceiling b → total n b ≤ total n a

-- whether a line is marked
abbrev pub marked : List ℕ → ℕ → Bool
marked marks ℓ = ltb 0 (get_or marks ℓ 0)

-- what no feasible matrix can exceed, for any marks: the ceilings of the rows without a mark, the ceilings of the columns with one,
-- and the bounds where a marked row meets a column without one
unfoldable pub cut : (n : ℕ) (bound ceiling marks : List ℕ) → ℕ
cut n bound ceiling marks =
    sum_to n (λ i. gate (not (marked marks i)) (get_or ceiling i 0))
    + (sum_to n (λ j. gate (marked marks (n + j)) (get_or ceiling (n + j) 0))
    + sum_to n (λ i. sum_to n (λ j. gate (marked marks i) (gate (not (marked marks (n + j))) (cell n bound i j)))))

-- what the marks of a finished search are: a row without a mark has no headroom, nor has a column with one; a marked row is at its bound where
-- it meets a column without a mark; a row without a mark has nothing where it meets a marked column
pub record Closed (n : ℕ) (bound ceiling a marks : List ℕ) : Type 0 where
  pub rows : (i : ℕ) → i < n → marked marks i ≡ false → line_sum n a i ≡ get_or ceiling i 0
  pub columns : (j : ℕ) → j < n → marked marks (n + j) ≡ true → line_sum n a (n + j) ≡ get_or ceiling (n + j) 0
  pub full : (i j : ℕ) → i < n → j < n → marked marks i ≡ true → marked marks (n + j) ≡ false → cell n a i j ≡ cell n bound i j
  pub empty : (i j : ℕ) → i < n → j < n → marked marks i ≡ false → marked marks (n + j) ≡ true → cell n a i j ≡ 0
