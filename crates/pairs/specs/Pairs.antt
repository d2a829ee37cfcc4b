-- Pairing sources with destinations. `may` has for each destination the set of the sources that it may hear, `source` for each
-- destination the source it is paired with, `destination` for each source its destination; n stands for none.
use Rattle.std.specs.Prelude.{ℕ, ◌<◌, ◌≤◌, ◌≡◌, List, length, get_or}
use Rattle.sums.specs.Sums.{sum_to, hit}
use Rattle.nodes.specs.Sets.{member, First}

-- 1 where destination j may hear source i, and 0 elsewhere
unfoldable pub allowed : (may : List ℕ) (i j : ℕ) → ℕ
allowed may i j = member i (get_or may j 0)

-- how many destinations are paired with source i, and for i = n how many with none
unfoldable pub partners : (n : ℕ) (source : List ℕ) (i : ℕ) → ℕ
partners n source i = sum_to n (λ j. hit (get_or source j 0) i)

-- each pair is known at both its ends, and allowed
pub record Paired (n : ℕ) (may source destination : List ℕ) : Type 0 where
  pub source_most : (j : ℕ) → j < n → get_or source j 0 ≤ n
  pub destination_most : (i : ℕ) → i < n → get_or destination i 0 ≤ n
  pub back : (j : ℕ) → j < n → get_or source j 0 < n → get_or destination (get_or source j 0) 0 ≡ j
  pub forth : (i : ℕ) → i < n → get_or destination i 0 < n → get_or source (get_or destination i 0) 0 ≡ i
  pub allows : (j : ℕ) → j < n → get_or source j 0 < n → allowed may (get_or source j 0) j ≡ 1

-- s is the set of the nodes below n that have no partner in x; what else it has is not said
pub record Unpaired (n : ℕ) (x : List ℕ) (s : ℕ) : Type 0 where
  pub in' : (k : ℕ) → k < n → n ≤ get_or x k 0 → member k s ≡ 1
  pub out : (k : ℕ) → k < n → member k s ≡ 1 → n ≤ get_or x k 0

-- the sources that have no destination, and the destinations that have no source
pub record FreeNodes (n : ℕ) (source destination : List ℕ) (sources destinations : ℕ) : Type 0 where
  pub no_destination : Unpaired n destination sources
  pub no_source : Unpaired n source destinations

-- every destination has a source
pub record Full (n : ℕ) (source : List ℕ) : Type 0 where
  pub all : (j : ℕ) → j < n → get_or source j 0 < n

-- why not all can be paired: sources are marked, n counts as marked, each marked source is paired, and whatever a destination with
-- a marked source, or with none, may hear is marked; and some destination has none
pub record Stuck (n : ℕ) (may source : List ℕ) : Type 0 where
  pub mark : ℕ → ℕ
  pub root : mark n ≡ 1
  pub paired : (i : ℕ) → i < n → 0 < mark i → 1 ≤ partners n source i
  pub closed : (i j : ℕ) → i < n → j < n → 0 < mark (get_or source j 0) → allowed may i j ≡ 1 → 0 < mark i
  pub free : 1 ≤ partners n source n

-- the lists are long enough
pub record Rooms (n : ℕ) (may source destination : List ℕ) : Type 0 where
  pub nodes : n ≤ 64
  pub mays : n ≤ length may
  pub sources : n ≤ length source
  pub destinations : n ≤ length destination

pub record CanMatch (n : ℕ) (may source destination : List ℕ) (sources destinations : ℕ) : Type 0 where
  pub rooms : Rooms n may source destination
  pub paired : Paired n may source destination
  pub free : FreeNodes n source destination sources destinations

-- all are paired where no destination below n is free, and else not all can be
pub record Matched (n : ℕ) (may source destination : List ℕ) (sources destinations : ℕ) : Type 0 where
  pub paired : Paired n may source destination
  pub free : FreeNodes n source destination sources destinations
  pub all : (j : ℕ) → First destinations j → n ≤ j → Full n source
  pub none : (j : ℕ) → First destinations j → j < n → Stuck n may source
