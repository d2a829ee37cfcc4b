-- The cells of a table that are at least x, for each column as a set of rows.
use Rattle.std.specs.Prelude.{ℕ, ◌<◌, ◌≤◌, ◌≡◌, List, get_or}
use Rattle.sums.specs.Tables.{cell}
use Rattle.nodes.specs.Sets.{member}

-- s has the rows whose cell in column j is at least x
pub record AtLeastIn (n : ℕ) (table : List ℕ) (x j s : ℕ) : Type 0 where
  pub in' : (i : ℕ) → i < n → x ≤ cell n table i j → member i s ≡ 1
  pub out : (i : ℕ) → i < n → member i s ≡ 1 → x ≤ cell n table i j

-- of each column
pub record AtLeast (n : ℕ) (table : List ℕ) (x : ℕ) (sets : List ℕ) : Type 0 where
  pub all : (j : ℕ) → j < n → AtLeastIn n table x j (get_or sets j 0)
