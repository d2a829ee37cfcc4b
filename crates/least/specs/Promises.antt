-- What the functions of the least rule ask of their callers, and what they promise. `n` is N; a primed table is what the function leaves.
use Rattle.std.specs.Prelude.{ℕ, ◌+◌, ◌-◌, ◌*◌, ◌≤◌, ◌<◌, ◌≡◌, true, List, length, get_or, drop, ltb}
use Rattle.sums.specs.Sums.{sum_to, bit}
use Rattle.sums.specs.Tables.{cell, tab}
use Rattle.star.specs.Tables.{Demands}
use Rattle.star.specs.Lines.{on_line, excess}
use Rattle.star.specs.LineSums.{Summed}
use Rattle.star.specs.Rooms.{Square, Capacities}
use Rattle.flow.specs.Flows.{Closed}
use Rattle.least.specs.Least.{Greatest, longer, share, remainder, missing}

-- ---- a line of a table
-- the cells of one line are now given by f, and every other cell is as before
pub record Rewritten (n ℓ : ℕ) (f : ℕ → ℕ) (k k' : List ℕ) : Type 0 where
  pub on : (t : ℕ) → t < n → on_line n k' ℓ t ≡ f t
  pub off : (i j : ℕ) → i < n → j < n → (i ≡ ℓ → ⊥) → (n + j ≡ ℓ → ⊥) → cell n k' i j ≡ cell n k i j

-- a table of demands, the capacities, and a line
pub record Line (n : ℕ) (cap e : List ℕ) (ℓ : ℕ) : Type 0 where
  pub square : Square n e
  pub demands : Demands n e
  pub capacities : Capacities n cap
  pub line : ℓ < 2 * n

-- A cell's claim to a missing slot, one number of its remainder and its index: of two cells the one with the larger claim comes before the other.
unfoldable pub claim : (remainder t : ℕ) → ℕ
claim r t = r * 64 + (63 - t)

-- how many of n claims outrank the t-th, which is to be larger
unfoldable pub outranking : (n : ℕ) (claims : List ℕ) (t : ℕ) → ℕ
outranking n claims t = sum_to n (λ u. bit (ltb (get_or claims t 0) (get_or claims u 0)))

-- a line too long is divided: the share and the claim of each cell, and what is missing
pub record Divided (n : ℕ) (cap e : List ℕ) (ℓ : ℕ) (shares claims : List ℕ) (rest : ℕ) : Type 0 where
  pub each : (t : ℕ) → t < n → get_or shares t 0 ≡ share n cap e ℓ t
  pub claimed : (t : ℕ) → t < n → get_or claims t 0 ≡ claim (remainder n cap e ℓ t) t
  pub lacks : rest ≡ missing n cap e ℓ

-- two lines still overflowing in E meet only in a zero cell
pub record MeetInZero (n : ℕ) (cap e : List ℕ) : Type 0 where
  pub zero : (i j : ℕ) → i < n → j < n → longer n cap e i ≡ true → longer n cap e (n + j) ≡ true → cell n e i j ≡ 0

-- E in a table of exactly n * n cells, whose lines too long meet only in zero cells, and the sums of its lines
pub record CanShare (n : ℕ) (cap sums e : List ℕ) : Type 0 where
  pub nodes : n ≤ 64
  pub exact : length e ≡ n * n
  pub demands : Demands n e
  pub capacities : Capacities n cap
  pub apart : MeetInZero n cap e
  pub room : 2 * n ≤ length sums
  pub summed : Summed n e sums

-- ---- the whole rule
-- D in its table, a table for A, and one with a place for the mark of each line
pub record CanWithdraw (n : ℕ) (cap d a marks : List ℕ) : Type 0 where
  pub demand : Square n d
  pub demands : Demands n d
  pub capacities : Capacities n cap
  pub withdrawn : Square n a
  pub lines : 2 * n ≤ length marks

-- a greatest withdrawn matrix, the marks that prove it the greatest, and the further cells of both tables as before
pub record Withdrew (n : ℕ) (cap d a marks a' marks' : List ℕ) : Type 0 where
  pub greatest : Greatest n cap d a'
  pub closed : Closed n d (tab (2 * n) (excess n cap d)) a' marks'
  pub rest : drop (n * n) a' ≡ drop (n * n) a
  pub rest_marks : drop (2 * n) marks' ≡ drop (2 * n) marks

-- D and A in their tables, and a table for what is kept
pub record CanKeep (n : ℕ) (cap d a k : List ℕ) : Type 0 where
  pub demand : Square n d
  pub demands : Demands n d
  pub capacities : Capacities n cap
  pub withdrawn : Square n a
  pub kept : Square n k
  pub greatest : Greatest n cap d a
