-- Layers: the roots, which are rows; the columns that one of them can give more; the rows from which one of these columns takes; and so on. `rows` and
-- `columns` have the layers as sets.
use Rattle.std.specs.Prelude.{ℕ, ◌+◌, ◌≤◌, ◌<◌, ◌≡◌, Option, Some, None, List, get_or}
use Rattle.nodes.specs.Sets.{member, Within}

-- two sets have a node below n in common
pub record Meets (n s t : ℕ) : Type 0 where
  pub node : ℕ
  pub within : node < n
  pub one : member node s ≡ 1
  pub other : member node t ≡ 1

-- r has those of some nodes whose set meets another
pub record Leading (n : ℕ) (list : List ℕ) (which to r : ℕ) : Type 0 where
  pub among : (i : ℕ) → i < n → member i r ≡ 1 → member i which ≡ 1
  pub meets : (i : ℕ) → i < n → member i r ≡ 1 → Meets n (get_or list i 0) to
  pub all : (i j : ℕ) → i < n → j < n → member i which ≡ 1 → member j (get_or list i 0) ≡ 1 → member j to ≡ 1 → member i r ≡ 1
  pub within : Within n r

-- each node of a layer was reached from the layer before
pub record Layered (n : ℕ) (offers takers rows columns : List ℕ) (last : ℕ) : Type 0 where
  pub column : (k j : ℕ) → k ≤ last → j < n → member j (get_or columns k 0) ≡ 1 → Meets n (get_or offers j 0) (get_or rows k 0)
  pub row : (k i : ℕ) → k < last → i < n → member i (get_or rows (k + 1) 0) ≡ 1 → Meets n (get_or takers i 0) (get_or columns k 0)

-- no column is in two layers
pub record Apart (n : ℕ) (columns : List ℕ) (last : ℕ) : Type 0 where
  pub apart : (k m j : ℕ) → k < m → m ≤ last → j < n → member j (get_or columns k 0) ≡ 1 → member j (get_or columns m 0) ≡ 1 → ⊥

-- the layers lead from the roots to a goal
pub record Found (n : ℕ) (offers takers rows columns : List ℕ) (roots goals last : ℕ) : Type 0 where
  pub few : last ≤ n
  pub layered : Layered n offers takers rows columns last
  pub apart : Apart n columns last
  pub starts : (i : ℕ) → i < n → member i (get_or rows 0 0) ≡ 1 → member i roots ≡ 1
  pub ends : (j : ℕ) → j < n → member j (get_or columns last 0) ≡ 1 → member j goals ≡ 1
  pub some : Meets n (get_or columns last 0) goals

-- no goal is reached. The marks of what is reached show it.
pub record Unreached (n : ℕ) (offers takers marks : List ℕ) (roots goals : ℕ) : Type 0 where
  pub starts : (i : ℕ) → i < n → member i roots ≡ 1 → 0 < get_or marks i 0
  pub columns : (i j : ℕ) → i < n → j < n → 0 < get_or marks i 0 → member i (get_or offers j 0) ≡ 1 → 0 < get_or marks (n + j) 0
  pub rows : (i j : ℕ) → i < n → j < n → 0 < get_or marks (n + j) 0 → member j (get_or takers i 0) ≡ 1 → 0 < get_or marks i 0
  pub ends : (j : ℕ) → j < n → 0 < get_or marks (n + j) 0 → member j goals ≡ 0

-- the search ends in either: with the last layer, or none
abbrev pub SearchEnded : (n : ℕ) (offers takers rows' columns' marks' : List ℕ) (roots goals : ℕ) → Option ℕ → Type 0
SearchEnded n offers takers rows' columns' marks' roots goals (Some last) = Found n offers takers rows' columns' roots goals last
SearchEnded n offers takers rows' columns' marks' roots goals None = Unreached n offers takers marks' roots goals

-- a line is marked with 1 where it is not in its set, and with 0 where it is
pub record Marked (n r c : ℕ) (marks : List ℕ) : Type 0 where
  pub rows : (i : ℕ) → i < n → get_or marks i 0 + member i r ≡ 1
  pub columns : (j : ℕ) → j < n → get_or marks (n + j) 0 + member j c ≡ 1
