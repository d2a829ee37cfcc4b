-- The way from a source with no destination to a destination with no source: source i can move to the destination `next i`, whose
-- source moves on, and so to the end. `rank` falls along the way, and is 0 at a destination from which no end is known.
use Rattle.std.specs.Prelude.{ℕ, ◌+◌, ◌<◌, ◌≤◌, ◌≡◌, List, length, get_or}
use Rattle.nodes.specs.Sets.{member, size}
use Rattle.pairs.specs.Pairs.{allowed, Paired, Unpaired, FreeNodes}

-- the nodes that have a partner in y are those that have one in x, and e
pub record Fewer (n : ℕ) (x y : List ℕ) (e : ℕ) : Type 0 where
  pub within : e < n
  pub was : n ≤ get_or x e 0
  pub now : get_or y e 0 < n
  pub stays : (k : ℕ) → k < n → get_or x k 0 < n → get_or y k 0 < n
  pub frees : (k : ℕ) → k < n → n ≤ get_or x k 0 → (k ≡ e → ⊥) → n ≤ get_or y k 0

-- r is one of the sources that destination j may hear, or there is none
pub record Choice (n : ℕ) (may : List ℕ) (sources j r : ℕ) : Type 0 where
  pub among : r < n → member r sources ≡ 1
  pub allows : r < n → allowed may r j ≡ 1
  pub none : n ≤ r → (i : ℕ) → i < n → member i sources ≡ 1 → allowed may i j ≡ 1 → ⊥

-- pairs, where no free destination may hear a free source
pub record Directed (n : ℕ) (may source destination : List ℕ) (sources destinations : ℕ) : Type 0 where
  pub paired : Paired n may source destination
  pub free : FreeNodes n source destination sources destinations
  pub dry : (j : ℕ) → j < n → member j destinations ≡ 1 → (i : ℕ) → i < n → member i sources ≡ 1 → allowed may i j ≡ 1 → ⊥

-- `sources` have no destination, and the new ones have one
pub record CanSpread (n : ℕ) (may destination next : List ℕ) (sources new j : ℕ) : Type 0 where
  pub nodes : n ≤ 64
  pub mays : n ≤ length may
  pub lists : n ≤ length destination
  pub nexts : n ≤ length next
  pub within : j < n
  pub free : Unpaired n destination sources
  pub paired : (i : ℕ) → i < n → member i new ≡ 1 → get_or destination i 0 < n

-- r, one of the sources, can move to the destination of a new one, and that one to j
pub record Met (n : ℕ) (may destination next next' : List ℕ) (sources new j r : ℕ) : Type 0 where
  pub who : ℕ
  pub within : who < n
  pub among : member who new ≡ 1
  pub moves : get_or next' who 0 ≡ j
  pub free : member r sources ≡ 1
  pub meets : get_or next' r 0 ≡ get_or destination who 0
  pub allows : allowed may r (get_or destination who 0) ≡ 1
  pub rest : (i : ℕ) → i < n → member i new ≡ 0 → (i ≡ r → ⊥) → get_or next' i 0 ≡ get_or next i 0

-- a new source whose destination is j
pub record From (n : ℕ) (destination : List ℕ) (new j : ℕ) : Type 0 where
  pub who : ℕ
  pub within : who < n
  pub among : member who new ≡ 1
  pub there : get_or destination who 0 ≡ j

-- the new sources can move to j, and their destinations, which may hear none of the sources, come to those to do
pub record Opened (n : ℕ) (may destination next next' : List ℕ) (sources new j todo todo' : ℕ) : Type 0 where
  pub moves : (i : ℕ) → i < n → member i new ≡ 1 → get_or next' i 0 ≡ j
  pub rest : (i : ℕ) → i < n → member i new ≡ 0 → get_or next' i 0 ≡ get_or next i 0
  pub come : (i : ℕ) → i < n → member i new ≡ 1 → member (get_or destination i 0) todo' ≡ 1
  pub dry : (i : ℕ) → i < n → member i new ≡ 1 → (k : ℕ) → k < n → member k sources ≡ 1 → allowed may k (get_or destination i 0) ≡ 1 → ⊥
  pub kept : (k : ℕ) → k < n → member k todo ≡ 1 → member k todo' ≡ 1
  pub none : (k : ℕ) → k < n → member k todo' ≡ 1 → member k todo ≡ 0 → From n destination new k
  pub many : size n todo' ≤ size n todo + size n new

pub record Spread (n : ℕ) (may destination next next' : List ℕ) (sources new j todo found todo' : ℕ) : Type 0 where
  pub met : found < n → Met n may destination next next' sources new j found
  pub none : n ≤ found → Opened n may destination next next' sources new j todo todo'

-- source i can move to a destination from which an end is known
pub record Hop (n : ℕ) (may next : List ℕ) (rank : ℕ → ℕ) (i : ℕ) : Type 0 where
  pub within : get_or next i 0 < n
  pub allows : allowed may i (get_or next i 0) ≡ 1
  pub reached : 0 < rank (get_or next i 0)

-- each source whose destination leads to an end moves on, and the rank falls
pub record Leads (n : ℕ) (may destination next : List ℕ) (rank : ℕ → ℕ) : Type 0 where
  pub hops : (i : ℕ) → i < n → get_or destination i 0 < n → 0 < rank (get_or destination i 0) → Hop n may next rank i
  pub falls : (i : ℕ) → i < n → get_or destination i 0 < n → 0 < rank (get_or destination i 0) → rank (get_or next i 0) < rank (get_or destination i 0)

-- the way of source r, which has no destination
pub record Way (n : ℕ) (may destination next : List ℕ) (r : ℕ) : Type 0 where
  pub rank : ℕ → ℕ
  pub leads : Leads n may destination next rank
  pub hop : Hop n may next rank r
  pub free : n ≤ get_or destination r 0

-- no such way: all sources that a reached destination may hear are gone from `left`, and have a destination that is reached
pub record Shut (n : ℕ) (may destination : List ℕ) (destinations : ℕ) : Type 0 where
  pub rank : ℕ → ℕ
  pub left : ℕ
  pub roots : (j : ℕ) → j < n → member j destinations ≡ 1 → 0 < rank j
  pub paired : (i : ℕ) → i < n → member i left ≡ 0 → get_or destination i 0 < n
  pub reached : (i : ℕ) → i < n → member i left ≡ 0 → 0 < rank (get_or destination i 0)
  pub closed : (i j : ℕ) → i < n → j < n → 0 < rank j → allowed may i j ≡ 1 → member i left ≡ 0

-- `sources` have no destination, `destinations` no source, and none of these may hear one of those
pub record CanSearch (n : ℕ) (may destination next : List ℕ) (sources destinations : ℕ) : Type 0 where
  pub nodes : n ≤ 64
  pub mays : n ≤ length may
  pub lists : n ≤ length destination
  pub nexts : n ≤ length next
  pub free : Unpaired n destination sources
  pub once : (i k : ℕ) → i < n → k < n → get_or destination i 0 < n → get_or destination i 0 ≡ get_or destination k 0 → i ≡ k
  pub apart : (i : ℕ) → i < n → get_or destination i 0 < n → member (get_or destination i 0) destinations ≡ 0
  pub dry : (j : ℕ) → j < n → member j destinations ≡ 1 → (i : ℕ) → i < n → member i sources ≡ 1 → allowed may i j ≡ 1 → ⊥

pub record Searched (n : ℕ) (may destination next : List ℕ) (destinations r : ℕ) : Type 0 where
  pub within : r ≤ n
  pub found : r < n → Way n may destination next r
  pub none : n ≤ r → Shut n may destination destinations

pub record CanFlip (n : ℕ) (may source destination next : List ℕ) (r : ℕ) : Type 0 where
  pub nodes : n ≤ 64
  pub sources : n ≤ length source
  pub destinations : n ≤ length destination
  pub nexts : n ≤ length next
  pub within : r < n
  pub paired : Paired n may source destination
  pub way : Way n may destination next r

-- the same for some `may`: moving sources looks at no set
pub record MayFlip (n : ℕ) (source destination next : List ℕ) (r : ℕ) : Type 0 where
  pub may : List ℕ
  pub can : CanFlip n may source destination next r

-- source r has a destination now, and e a source
pub record Flipped (n : ℕ) (may source destination source' destination' : List ℕ) (r e : ℕ) : Type 0 where
  pub paired : Paired n may source' destination'
  pub source_new : Fewer n destination destination' r
  pub destination_new : Fewer n source source' e

-- and this whatever the sets are
pub record Flips (n : ℕ) (source destination next source' destination' : List ℕ) (r e : ℕ) : Type 0 where
  pub flipped : (may : List ℕ) → CanFlip n may source destination next r → Flipped n may source destination source' destination' r e
