-- A path through the layers: at layer k from row at[k] to column to[k], which the row can give more; and that column takes from row at[k + 1].
use Rattle.std.specs.Prelude.{ℕ, ◌+◌, ◌*◌, ◌≤◌, ◌<◌, ◌≡◌, Bool, true, false, List, length, get_or, set}
use Rattle.sums.specs.Sums.{sum_to}
use Rattle.sums.specs.Tables.{cell}
use Rattle.star.specs.Lines.{line_sum}
use Rattle.nodes.specs.Sets.{member, size, Without}
use Rattle.growth.specs.Growth.{Below, only}
use Rattle.growth.specs.Sides.{Sides}
use Rattle.layers.specs.Layers.{Layered, Apart}

-- ---- paths
-- its nodes; it ends in column e, and no column is on it twice
pub record Path (n : ℕ) (at to : List ℕ) (e last : ℕ) : Type 0 where
  pub end' : get_or to last 0 ≡ e
  pub row : (m : ℕ) → m ≤ last → get_or at m 0 < n
  pub column : (m : ℕ) → m ≤ last → get_or to m 0 < n
  pub once : (m p : ℕ) → m < p → p ≤ last → get_or to m 0 ≡ get_or to p 0 → ⊥

-- each step of it is one of the sets'
pub record Follows (offers takers at to : List ℕ) (last : ℕ) : Type 0 where
  pub more : (m : ℕ) → m ≤ last → member (get_or at m 0) (get_or offers (get_or to m 0) 0) ≡ 1
  pub less : (m : ℕ) → m < last → member (get_or to m 0) (get_or takers (get_or at (m + 1) 0) 0) ≡ 1

-- x can go along it
pub record Passes (n : ℕ) (bound a at to : List ℕ) (last x : ℕ) : Type 0 where
  pub more : (m : ℕ) → m ≤ last → cell n a (get_or at m 0) (get_or to m 0) + x ≤ cell n bound (get_or at m 0) (get_or to m 0)
  pub less : (m : ℕ) → m < last → x ≤ cell n a (get_or at (m + 1) 0) (get_or to m 0)

-- ---- the search for one
-- how many nodes the layers have
unfoldable pub weight : (n : ℕ) (rows columns : List ℕ) (last : ℕ) → ℕ
weight n rows columns last = sum_to (last + 1) (λ k. size n (get_or rows k 0) + size n (get_or columns k 0))

-- the first node that is in both sets, or 64
pub record FirstInBoth (s t r : ℕ) : Type 0 where
  pub within : r ≤ 64
  pub one : r < 64 → member r s ≡ 1
  pub other : r < 64 → member r t ≡ 1
  pub before : (j : ℕ) → j < r → member j s ≡ 1 → member j t ≡ 1 → ⊥

-- node i has left layer k
pub record LeftLayer (layers layers' : List ℕ) (k i : ℕ) : Type 0 where
  pub rest : ℕ
  pub without : Without (get_or layers k 0) i rest
  pub cells : layers' ≡ set layers k rest

-- layers have only lost nodes
pub record Thinned (rows columns rows' columns' : List ℕ) : Type 0 where
  pub row : (k i : ℕ) → member i (get_or rows' k 0) ≡ 1 → member i (get_or rows k 0) ≡ 1
  pub column : (k j : ℕ) → member j (get_or columns' k 0) ≡ 1 → member j (get_or columns k 0) ≡ 1

pub record CanClimb (n : ℕ) (columns : List ℕ) (e last : ℕ) : Type 0 where
  pub nodes : n ≤ 64
  pub few : last ≤ n
  pub apart : Apart n columns last
  pub column : e < n
  pub in' : member e (get_or columns last 0) ≡ 1

-- a path from a row of the first layer; or none, and then a node has left its layer, which does not happen where each node was reached from the layer before
pub record Climbed (n : ℕ) (offers takers rows columns rows' columns' at' to' : List ℕ) (e last : ℕ) (r : Bool) : Type 0 where
  pub path : r ≡ true → Path n at' to' e last
  pub follows : r ≡ true → Follows offers takers at' to' last
  pub start : r ≡ true → member (get_or at' 0 0) (get_or rows' 0 0) ≡ 1
  pub thinned : Thinned rows columns rows' columns'
  pub falls : r ≡ false → weight n rows' columns' last < weight n rows columns last
  pub sure : Layered n offers takers rows columns last → r ≡ true

-- ---- what goes along one
-- at least 1 can go along the path
pub record Passable (n : ℕ) (bound a headroom at to : List ℕ) (e last : ℕ) : Type 0 where
  pub below : Below n bound a
  pub path : Path n at to e last
  pub passes : Passes n bound a at to last 1
  pub headrooms : 2 * n ≤ length headroom
  pub start : 0 < get_or headroom (get_or at 0 0) 0
  pub ending : 0 < get_or headroom (n + e) 0
  pub few : last ≤ 64

-- x can, and both ends have headroom for it
pub record Bottleneck (n : ℕ) (bound a headroom at to : List ℕ) (e last x : ℕ) : Type 0 where
  pub some : 0 < x
  pub passes : Passes n bound a at to last x
  pub start : x ≤ get_or headroom (get_or at 0 0) 0
  pub ending : x ≤ get_or headroom (n + e) 0

pub record CanSend (n : ℕ) (bound a offers takers at to : List ℕ) (e last x : ℕ) : Type 0 where
  pub sides : Sides n bound a offers takers
  pub path : Path n at to e last
  pub passes : Passes n bound a at to last x
  pub some : 0 < x
  pub few : last ≤ 64

-- x more in column e and in the first row of the path
pub record Sent (n : ℕ) (bound a a' offers' takers' at : List ℕ) (e x : ℕ) : Type 0 where
  pub sides : Sides n bound a' offers' takers'
  pub sums : (ℓ : ℕ) → ℓ < 2 * n → line_sum n a' ℓ ≡ line_sum n a ℓ + only ℓ (get_or at 0 0) x + only ℓ (n + e) x
