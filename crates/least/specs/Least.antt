-- Least rule (000 Algorithm 2; 001 section 3.2). `n` is N, `cap` has the capacity of each of the 2N lines where document 01 says L.
use Rattle.std.specs.Prelude.{ℕ, ◌+◌, ◌-◌, ◌*◌, ◌/◌, ◌%◌, ◌≤◌, ◌<◌, ◌≡◌, Bool, false, cond, ◌&&◌, ◌||◌, List, get_or, ltb, eqb}
use Rattle.sums.specs.Sums.{sum_to, bit}
use Rattle.sums.specs.Tables.{cell, square}
use Rattle.star.specs.Lines.{on_line, line_sum, total, excess, critical}

-- The withdrawn matrix A is zero off the critical pairs, at most D at each, its row sums at most the row's excess and its column sums at most the column's.
pub record Withdrawn (n : ℕ) (cap d a : List ℕ) : Type 0 where
  pub off : (i j : ℕ) → i < n → j < n → critical n cap d i j ≡ false → cell n a i j ≡ 0
  pub below : (i j : ℕ) → i < n → j < n → cell n a i j ≤ cell n d i j
  pub lines : (ℓ : ℕ) → ℓ < 2 * n → line_sum n a ℓ ≤ excess n cap d ℓ

-- Among all such matrices its total is the greatest. Any one of them will do.
pub record Greatest (n : ℕ) (cap d a : List ℕ) : Type 0 where
  pub withdrawn : Withdrawn n cap d a
  pub most : (b : List ℕ) → Withdrawn n cap d b → total n b ≤ total n a

-- Let E be D minus A.
unfoldable pub left : (n : ℕ) (d a : List ℕ) → List ℕ
left n d a = square n (λ i j. cell n d i j - cell n a i j)

-- For a line whose sum s in E exceeds L ..
unfoldable pub longer : (n : ℕ) (cap e : List ℕ) (ℓ : ℕ) → Bool
longer n cap e ℓ = ltb (get_or cap ℓ 0) (line_sum n e ℓ)

-- .. each cell v keeps v×L/s rounded down.
unfoldable pub share : (n : ℕ) (cap e : List ℕ) (ℓ t : ℕ) → ℕ
share n cap e ℓ t = on_line n e ℓ t * get_or cap ℓ 0 / line_sum n e ℓ

-- the remainder of v×L by s
unfoldable pub remainder : (n : ℕ) (cap e : List ℕ) (ℓ t : ℕ) → ℕ
remainder n cap e ℓ t = on_line n e ℓ t * get_or cap ℓ 0 % line_sum n e ℓ

-- the slots still missing from L
unfoldable pub missing : (n : ℕ) (cap e : List ℕ) (ℓ : ℕ) → ℕ
missing n cap e ℓ = get_or cap ℓ 0 - sum_to n (λ t. share n cap e ℓ t)

-- They go one each to the cells with the largest remainder; equal remainders, the lowest index in the line first. With r the remainder of
-- each cell of a line: cell u comes before cell t.
unfoldable pub before : (r : ℕ → ℕ) (u t : ℕ) → Bool
before r u t = ltb (r t) (r u) || (eqb (r u) (r t) && ltb u t)

-- how many cells of the line come before cell t
unfoldable pub rank : (n : ℕ) (r : ℕ → ℕ) (t : ℕ) → ℕ
rank n r t = sum_to n (λ u. bit (before r u t))

-- what the t-th cell of a line that exceeds L keeps
unfoldable pub shared : (n : ℕ) (cap e : List ℕ) (ℓ t : ℕ) → ℕ
shared n cap e ℓ t = share n cap e ℓ t + bit (ltb (rank n (remainder n cap e ℓ) t) (missing n cap e ℓ))

-- Other cells keep E. Two lines still overflowing in E meet only in a zero cell, so the order of lines is immaterial: here the row is looked at first.
unfoldable pub kept_cell : (n : ℕ) (cap e : List ℕ) (i j : ℕ) → ℕ
kept_cell n cap e i j = cond (longer n cap e i) (shared n cap e i j) (cond (longer n cap e (n + j)) (shared n cap e (n + j) i) (cell n e i j))

-- what is kept, given D and A
unfoldable pub kept_from : (n : ℕ) (cap d a : List ℕ) → List ℕ
kept_from n cap d a = square n (kept_cell n cap (left n d a))
