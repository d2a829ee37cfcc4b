-- Walk after walk: each sends what can go along one path through the layers, until the last layer is empty.
use Rattle.std.specs.Prelude.{ℕ, ◌+◌, ◌-◌, ◌*◌, ◌≤◌, ◌<◌, ◌≡◌, List, length, get_or, set}
use Rattle.nodes.specs.Sets.{member}
use Rattle.growth.specs.Growth.{SpansKept, row_headroom}
use Rattle.growth.specs.Sides.{Sides}
use Rattle.layers.specs.Layers.{Layered, Apart, Meets}
use Rattle.walks.specs.Paths.{Thinned}

-- the rows of the first layer have headroom, and so have the columns of the last
pub record OpenEnds (n : ℕ) (headroom rows columns : List ℕ) (last : ℕ) : Type 0 where
  pub starts : (i : ℕ) → i < n → member i (get_or rows 0 0) ≡ 1 → 0 < get_or headroom i 0
  pub ends : (j : ℕ) → j < n → member j (get_or columns last 0) ≡ 1 → 0 < get_or headroom (n + j) 0

-- where nothing is left node i leaves layer k
pub record LeftIfNone (layers layers' : List ℕ) (k i left : ℕ) : Type 0 where
  pub none : left ≡ 0 → member i (get_or layers' k 0) ≡ 0
  pub others : (m j : ℕ) → member j (get_or layers' m 0) ≡ 1 → member j (get_or layers m 0) ≡ 1

-- x can be taken from the headroom of row i and column j
pub record CanSpend (n : ℕ) (headroom : List ℕ) (i j last x : ℕ) : Type 0 where
  pub nodes : n ≤ 64
  pub few : last ≤ 64
  pub row : i < n
  pub column : j < n
  pub headrooms : 2 * n ≤ length headroom
  pub start : x ≤ get_or headroom i 0
  pub ending : x ≤ get_or headroom (n + j) 0

-- it is; what has no headroom left is in the first layer's rows or the last layer's columns no more
pub record Spent (n : ℕ) (headroom rows columns headroom' rows' columns' : List ℕ) (i j last x : ℕ) : Type 0 where
  pub cells : headroom' ≡ set (set headroom i (get_or headroom i 0 - x)) (n + j) (get_or (set headroom i (get_or headroom i 0 - x)) (n + j) 0 - x)
  pub thinned : Thinned rows columns rows' columns'
  pub row : get_or headroom' i 0 ≡ 0 → member i (get_or rows' 0 0) ≡ 0
  pub column : get_or headroom' (n + j) 0 ≡ 0 → member j (get_or columns' last 0) ≡ 0

-- the layers of a search that has found a column with headroom
pub record CanDrain (n : ℕ) (bound a headroom offers takers rows columns : List ℕ) (last : ℕ) : Type 0 where
  pub sides : Sides n bound a offers takers
  pub few : last ≤ n
  pub headrooms : 2 * n ≤ length headroom
  pub apart : Apart n columns last
  pub open_ends : OpenEnds n headroom rows columns last
  pub layered : Layered n offers takers rows columns last
  pub some : Meets n (get_or columns last 0) (get_or columns last 0)

-- the matrix has changed, and the rows have less headroom
pub record Drained (n : ℕ) (bound a headroom a' headroom' offers' takers' : List ℕ) : Type 0 where
  pub sides : Sides n bound a' offers' takers'
  pub kept : SpansKept n a headroom a' headroom'
  pub falls : row_headroom n headroom' < row_headroom n headroom
