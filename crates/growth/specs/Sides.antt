-- Who can give more, and who takes: `offers` has for each column the rows that can give it more, `takers` for each row the columns that take from it.
use Rattle.std.specs.Prelude.{ℕ, min, ◌+◌, ◌-◌, ◌*◌, ◌≤◌, ◌<◌, ◌≡◌, List, length, get_or, set}
use Rattle.sums.specs.Tables.{cell}
use Rattle.nodes.specs.Sets.{member, Within}
use Rattle.star.specs.Lines.{line_sum}
use Rattle.growth.specs.Growth.{Below, SpansKept, only}

-- the sets are right for the matrix
pub record Sides (n : ℕ) (bound a offers takers : List ℕ) : Type 0 where
  pub below : Below n bound a
  pub columns : n ≤ length offers
  pub rows : n ≤ length takers
  pub more : (i j : ℕ) → i < n → j < n → member i (get_or offers j 0) ≡ min 1 (cell n bound i j - cell n a i j)
  pub less : (i j : ℕ) → i < n → j < n → member j (get_or takers i 0) ≡ min 1 (cell n a i j)

-- the open lines, those with headroom, of the n lines from `from` on
pub record OpenLines (n : ℕ) (headroom : List ℕ) (from s : ℕ) : Type 0 where
  pub members : (k : ℕ) → k < n → member k s ≡ min 1 (get_or headroom (from + k) 0)
  pub within : Within n s

-- row i can give x more to column j, or x less
pub record CanMore (n : ℕ) (bound a : List ℕ) (i j x : ℕ) : Type 0 where
  pub row : i < n
  pub column : j < n
  pub some : 0 < x
  pub most : cell n a i j + x ≤ cell n bound i j

pub record CanLess (n : ℕ) (a : List ℕ) (i j x : ℕ) : Type 0 where
  pub row : i < n
  pub column : j < n
  pub some : 0 < x
  pub most : x ≤ cell n a i j

-- it gives as much, and the sets are right again
pub record More (n : ℕ) (bound a a' offers' takers' : List ℕ) (i j x : ℕ) : Type 0 where
  pub cells : a' ≡ set a (i * n + j) (cell n a i j + x)
  pub sides : Sides n bound a' offers' takers'

pub record Less (n : ℕ) (bound a a' offers' takers' : List ℕ) (i j x : ℕ) : Type 0 where
  pub cells : a' ≡ set a (i * n + j) (cell n a i j - x)
  pub sides : Sides n bound a' offers' takers'

-- the matrix has changed, the sets are right again, and each line's ceiling is kept
pub record Grew (n : ℕ) (bound a headroom a' headroom' offers' takers' : List ℕ) : Type 0 where
  pub sides : Sides n bound a' offers' takers'
  pub kept : SpansKept n a headroom a' headroom'

-- row i has given x to column j, out of its own headroom and as much as is wanted at most; the column's headroom is not touched
pub record GrewAt (n : ℕ) (bound a headroom a' headroom' offers' takers' : List ℕ) (i j want x : ℕ) : Type 0 where
  pub sides : Sides n bound a' offers' takers'
  pub most : x ≤ want
  pub row : x ≤ get_or headroom i 0
  pub headrooms : headroom' ≡ set headroom i (get_or headroom i 0 - x)
  pub sums : (ℓ : ℕ) → ℓ < 2 * n → line_sum n a' ℓ ≡ line_sum n a ℓ + only ℓ i x + only ℓ (n + j) x
