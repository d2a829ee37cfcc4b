-- One turn after the other. What one hands to the next is the level, for how many pairings it has served, and the nodes without a partner.
use Rattle.std.specs.Prelude.{ℕ, ◌+◌, ◌*◌, ◌<◌, ◌≤◌, ◌≡◌, List, length, get_or}
use Rattle.sums.specs.Tables.{cell}
use Rattle.star.specs.Lines.{line_sum}
use Rattle.star.specs.Rooms.{Square}
use Rattle.at_least.specs.AtLeast.{AtLeast}
use Rattle.cells.specs.Cells.{padded_in}
use Rattle.pairs.specs.declared.free.Free.{Free}
use Rattle.pairs.specs.Pairs.{Paired, FreeNodes, Full, Rooms}
use Rattle.holds.specs.declared.turns.Turn.{Turn}
use Rattle.holds.specs.Holds.{Deducts, Next}

-- what holds between two turns: the pairs that still get at least `level` slots are those that may be paired, and the free nodes are known
pub record Standing (n : ℕ) (table may source destination : List ℕ) (level : ℕ) (free : Free) : Type 0 where
  pub table_room : Square n table
  pub rooms : Rooms n may source destination
  pub right : AtLeast n (padded_in table) level may
  pub paired : Paired n may source destination
  pub lone : FreeNodes n source destination free.sources free.destinations
  pub some : 1 ≤ level
  pub most : level < 65536

-- every line still gets `left` slots, and there are some
pub record Even (n : ℕ) (table : List ℕ) (left : ℕ) : Type 0 where
  pub lines : (ℓ : ℕ) → ℓ < 2 * n → line_sum n (padded_in table) ℓ ≡ left
  pub some : 1 ≤ left

pub record Begun (n : ℕ) (table may source destination : List ℕ) (turn : Turn) : Type 0 where
  pub standing : Standing n table may source destination turn.level turn.free
  pub none : turn.held ≡ 0

pub record CanPair (n : ℕ) (table may source destination : List ℕ) (turn : Turn) : Type 0 where
  pub standing : Standing n table may source destination turn.level turn.free
  pub left : ℕ
  pub even : Even n table left

-- every destination has a source, and the level served for no more pairings than before
pub record Ready (n : ℕ) (table may source destination : List ℕ) (before turn : Turn) : Type 0 where
  pub standing : Standing n table may source destination turn.level turn.free
  pub full : Full n source
  pub few : turn.held ≤ before.held

pub record CanTake (n : ℕ) (table may source destination : List ℕ) (level h : ℕ) (free : Free) : Type 0 where
  pub standing : Standing n table may source destination level free
  pub full : Full n source
  pub enough : (j : ℕ) → j < n → h ≤ cell n (padded_in table) (get_or source j 0) j

-- h slots are taken from the pairs that were, and what holds between two turns holds at the same level
pub record Parted (n : ℕ) (table source table' may' source' destination' : List ℕ) (level h : ℕ) (free : Free) : Type 0 where
  pub deducts : Deducts n table table' source h
  pub standing : Standing n table' may' source' destination' level free

pub record CanTurn (n : ℕ) (table may source destination bytes : List ℕ) (turn : Turn) (left : ℕ) : Type 0 where
  pub standing : Standing n table may source destination turn.level turn.free
  pub even : Even n table left
  pub few : turn.held + left ≤ 1024
  pub outs : n ≤ length bytes

-- the setting that comes next is held for so many slots as the turn says, and all is ready for another turn
pub record Turned (n : ℕ) (table table' may' source' destination' bytes' : List ℕ) (left : ℕ) (turn : Turn) : Type 0 where
  pub next : Next n table table' bytes' left turn.slots
  pub standing : Standing n table' may' source' destination' turn.level turn.free
  pub few : turn.held + left ≤ 1024 + turn.slots
