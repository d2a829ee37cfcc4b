-- What the functions of the cut ask and promise. `n` is N, `cap` has the capacities; `kept` and `done` hold the state of the cut; `a` and `b` hold the two sums of each line.
use Rattle.std.specs.Prelude.{ℕ, ◌+◌, ◌-◌, ◌*◌, ◌/◌, ◌≤◌, ◌<◌, ◌≡◌, Bool, ◌&&◌, ◌||◌, List, length, get_or, set, replicate, leb}
use Rattle.star.specs.Tables.{Demands}
use Rattle.star.specs.Lines.{source_on, destination_on, crossing, on_line, line_sum}
use Rattle.star.specs.Rooms.{Square, Capacities}
use Rattle.fair.specs.Fair.{Cutting, modified_sum, unmodified_sum, numerator, exceeds, smaller, taken, cut_line}

-- the state of the cut, from its two tables
abbrev pub cutting : (kept done : List ℕ) → Cutting
cutting kept done = record { values = kept; done = done }

-- what `cut` asks: up to 64 nodes, their demands, the capacities, and room for a cell for each pair
pub record CanCut (n : ℕ) (cap demand kept : List ℕ) : Type 0 where
  pub square : Square n demand
  pub demands : Demands n demand
  pub capacities : Capacities n cap
  pub room : n * n ≤ length kept

-- ---- the two sums
-- table a has each line's sum of unmodified cells, table b its sum of modified ones
pub record Counted (n : ℕ) (s : Cutting) (a b : List ℕ) : Type 0 where
  pub room : (2 * n ≤ length a) × (2 * n ≤ length b)
  pub unmodified : (ℓ : ℕ) → ℓ < 2 * n → get_or a ℓ 0 ≡ unmodified_sum n s ℓ
  pub modified : (ℓ : ℕ) → ℓ < 2 * n → get_or b ℓ 0 ≡ modified_sum n s ℓ

-- ---- the choice of the next line
-- fractions can be compared in 32 bits: no sum is above 64 × 65,535, and no b above its line's capacity
pub record Comparable (n : ℕ) (cap a b : List ℕ) : Type 0 where
  pub nodes : n ≤ 64
  pub capacities : Capacities n cap
  pub most : (ℓ : ℕ) → ℓ < 2 * n → get_or a ℓ 0 + get_or b ℓ 0 ≤ 4194240
  pub within : (ℓ : ℕ) → ℓ < 2 * n → get_or b ℓ 0 ≤ get_or cap ℓ 0

-- whether line m comes before line p, the one taken so far (2N where none is): in every state with these sums
pub record Ahead (n : ℕ) (cap a b : List ℕ) (m p : ℕ) (r : Bool) : Type 0 where
  pub is : (s : Cutting) → Counted n s a b → r ≡ (exceeds n cap s m && (leb (2 * n) p || smaller n cap s m p))

-- of the lines below m the one to cut next, or 2N: in every state with these sums
pub record NextLine (n : ℕ) (cap a b : List ℕ) (m r : ℕ) : Type 0 where
  pub is : (s : Cutting) → Counted n s a b → r ≡ taken n cap s m

-- ---- the invariant of the steps
-- b is at most the capacity on every line, so that a > 0 on a line above its capacity; no line that has been cut is above its capacity.
pub record Sound (n : ℕ) (cap : List ℕ) (s : Cutting) : Type 0 where
  pub cells : length s.values ≡ n * n
  pub flags : length s.done ≡ 2 * n
  pub within : (m : ℕ) → m < 2 * n → modified_sum n s m ≤ get_or cap m 0
  pub closed : (m : ℕ) → m < 2 * n → 0 < get_or s.done m 0 → line_sum n s.values m ≤ get_or cap m 0

-- of the lines below k that exceed, ℓ has a smallest fraction
pub record Smallest (n : ℕ) (cap : List ℕ) (s : Cutting) (k ℓ : ℕ) : Type 0 where
  pub line : ℓ < k
  pub over : get_or cap ℓ 0 < line_sum n s.values ℓ
  pub smallest : (m : ℕ) → m < k → get_or cap m 0 < line_sum n s.values m → numerator n cap s ℓ * unmodified_sum n s m ≤ numerator n cap s m * unmodified_sum n s ℓ

-- ---- one cell
-- what cutting the t-th cell of a line by p/q asks
pub record CanCutCell (n : ℕ) (kept a b : List ℕ) (ℓ t p q : ℕ) : Type 0 where
  pub square : Square n kept
  pub line : (ℓ < 2 * n) × (t < n)
  pub fraction : (p ≤ 1024) × (p < q)
  pub demand : on_line n kept ℓ t ≤ 65535
  pub part : on_line n kept ℓ t ≤ get_or a (crossing n ℓ t) 0
  pub most : get_or b (crossing n ℓ t) 0 ≤ 4194240

-- the cell v becomes v×p/q rounded down, and goes over from a to b on the line that crosses there; r is what it is now
pub record CellCut (n : ℕ) (kept a b : List ℕ) (ℓ t p q : ℕ) (kept' a' b' : List ℕ) (r : ℕ) : Type 0 where
  pub share : r ≡ on_line n kept ℓ t * p / q
  pub value : kept' ≡ set kept (source_on n ℓ t * n + destination_on n ℓ t) r
  pub less : a' ≡ set a (crossing n ℓ t) (get_or a (crossing n ℓ t) 0 - on_line n kept ℓ t)
  pub more : b' ≡ set b (crossing n ℓ t) (get_or b (crossing n ℓ t) 0 + r)

-- ---- one line
-- what cutting a line asks: the sums of the state, the invariant, and that it is a line to cut next
pub record CanCutLine (n : ℕ) (cap kept done a b : List ℕ) (ℓ : ℕ) : Type 0 where
  pub nodes : n ≤ 64
  pub capacities : Capacities n cap
  pub demands : Demands n kept
  pub counted : Counted n (cutting kept done) a b
  pub sound : Sound n cap (cutting kept done)
  pub smallest : Smallest n cap (cutting kept done) (2 * n) ℓ

-- the line is cut, and the tables have the sums of the state afterwards
pub record LineCut (n : ℕ) (cap kept done a b : List ℕ) (ℓ : ℕ) (kept' done' a' b' : List ℕ) : Type 0 where
  pub state : cutting kept' done' ≡ cut_line n cap (cutting kept done) ℓ
  pub counted : Counted n (cutting kept' done') a' b'

-- ---- all lines
-- what the steps ask: a table of demands of which nothing is modified, and its sums
pub record CanCutAll (n : ℕ) (cap kept done a b : List ℕ) : Type 0 where
  pub nodes : n ≤ 64
  pub capacities : Capacities n cap
  pub cells : length kept ≡ n * n
  pub demands : Demands n kept
  pub none : done ≡ replicate (2 * n) 0
  pub counted : Counted n (cutting kept done) a b

-- what `cut_exactly` asks: as `cut`, with a cell in kept for each pair and no more, and a flag for each line, none of which is up
pub record CanCutExactly (n : ℕ) (cap demand kept done : List ℕ) : Type 0 where
  pub square : Square n demand
  pub demands : Demands n demand
  pub capacities : Capacities n cap
  pub cells : length kept ≡ n * n
  pub none : done ≡ replicate (2 * n) 0
