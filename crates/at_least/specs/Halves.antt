-- The sets of rows, made in halves: node b of a half that begins at row `from` is row from + b.
use Rattle.std.specs.Prelude.{ℕ, ◌+◌, ◌<◌, ◌≤◌, ◌≡◌, ◌⊎◌, List, length, get_or}
use Rattle.sums.specs.Tables.{cell}
use Rattle.nodes.specs.Sets.{member, None, Joined}

-- the rows that a half is for are nodes and 32 at most, and nobody is in it yet
pub record CanAdd (n : ℕ) (half : List ℕ) (from to : ℕ) : Type 0 where
  pub begins : from ≤ to
  pub ends : to ≤ n
  pub few : to ≤ from + 32
  pub room : n ≤ length half
  pub none : (j : ℕ) → j < n → None (get_or half j 0)

-- row i, node b of the half, is in the sets of those of the first m columns in which its cell is at least x, and what else is in a set was
pub record RowAdded (n : ℕ) (table : List ℕ) (x : ℕ) (half half' : List ℕ) (i b m : ℕ) : Type 0 where
  pub in' : (j : ℕ) → j < m → x ≤ cell n table i j → member b (get_or half' j 0) ≡ 1
  pub out : (j : ℕ) → j < m → member b (get_or half' j 0) ≡ 1 → (x ≤ cell n table i j) ⊎ (member b (get_or half j 0) ≡ 1)
  pub other : (a j : ℕ) → j < m → (a ≡ b → ⊥) → member a (get_or half' j 0) ≡ member a (get_or half j 0)

-- in the sets of a half are those of the rows from `from` to before `to` whose cell is at least x, and nobody else
pub record RowsAdded (n : ℕ) (table : List ℕ) (x : ℕ) (half : List ℕ) (from to : ℕ) : Type 0 where
  pub in' : (b j : ℕ) → from + b < to → j < n → x ≤ cell n table (from + b) j → member b (get_or half j 0) ≡ 1
  pub out : (b j : ℕ) → j < n → member b (get_or half j 0) ≡ 1 → (from + b < to) × (x ≤ cell n table (from + b) j)

-- the sets of the first m columns are those of two halves
pub record HalvesJoined (low high sets : List ℕ) (m : ℕ) : Type 0 where
  pub all : (j : ℕ) → j < m → Joined (get_or low j 0) (get_or high j 0) (get_or sets j 0)
