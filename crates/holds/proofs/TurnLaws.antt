-- A turn: at level 1 all can be paired, the setting that follows has no conflict, and what holds between two turns holds after it. The laws
-- assume nothing.
use Prim.Native.Nat.{ℕ, ◌+◌, ◌*◌, ◌≤◌, ◌<◌}
use native.Mathlib.Omega.{arith}
use mathlib.Core.Path.{◌≡◌, refl, sym, ap, ◌∙◌}
use mathlib.Core.Logic.{◌⊎◌, ⊎_elim, inl, inr}
use mathlib.Core.List.{List}
use lib.ListN.{length, get_or}
use Rattle.sums.specs.Sums.{hit}
use Rattle.sums.specs.Tables.{cell}
use Rattle.sums.proofs.Sums.{sum_two, hit_same, hit_other}
use Rattle.sums.proofs.Cases.{by_eq, by_lt}
use Rattle.star.proofs.LineLaws.{row_sum, column_sum}
use Rattle.at_least.specs.AtLeast.{AtLeast}
use Rattle.cells.specs.Cells.{padded_in, kept_in}
use Rattle.pairs.specs.declared.free.Free.{Free}
use Rattle.pairs.specs.Pairs.{allowed, partners, Paired, Matched, Stuck}
use Rattle.pairs.proofs.Counts.{never_stuck, partners_all}
use Rattle.holds.specs.declared.turns.Turn.{Turn}
use Rattle.holds.specs.Holds.{CanHear, Hears, Deducts, Next}
use Rattle.holds.specs.Turns.{Standing, Even, CanPair, Ready, CanTake, Parted, CanTurn, Turned}
use Rattle.holds.proofs.HearLaws.{lasting_idle, lasting_due, heard_idle, heard_due}
use Rattle.holds.proofs.TakeLaws.{line_less}

-- ---- pairs at a lower level
pub lower_paired : {n : ℕ} {padded may may' source destination : List ℕ} {level level' : ℕ} → AtLeast n padded level may → AtLeast n padded level' may' → level' ≤ level
    → Paired n may source destination → Paired n may' source destination
unfolding allowed
lower_paired {source = source} a b le p = record {
  source_most = p.source_most;
  destination_most = p.destination_most;
  back = p.back;
  forth = p.forth;
  allows = λ j hj lt. (b.all j hj).in' (get_or source j 0) lt (omega (arith, (a.all j hj).out (get_or source j 0) lt (p.allows j hj lt)));
}

-- ---- all are paired, where need be at a lower level
pub record Seeking (n : ℕ) (table may0 source0 destination0 may source destination : List ℕ) (level held held0 : ℕ) (free : Free) : Type 0 where
  pub may_len : length may ≡ length may0
  pub source_len : length source ≡ length source0
  pub destination_len : length destination ≡ length destination0
  pub standing : Standing n table may source destination level free
  pub few : held ≤ held0

module _ {n : ℕ} {table may source destination : List ℕ} {level : ℕ} {free : Free} (g : Standing n table may source destination level free) where
  -- other pairs at the same level
  pub seek_matched : {source' destination' : List ℕ} {free' : Free} → length source' ≡ length source → length destination' ≡ length destination
      → Matched n may source' destination' free'.sources free'.destinations → Standing n table may source' destination' level free'
  seek_matched es ed m = record {
    table_room = g.table_room;
    rooms = record { nodes = g.rooms.nodes; mays = g.rooms.mays; sources = omega (arith, g.rooms.sources); destinations = omega (arith, g.rooms.destinations) };
    right = g.right;
    paired = m.paired;
    lone = m.free;
    some = g.some;
    most = g.most;
  }

  -- at level 1 all can be paired, so a level at which not all can be is at least 2
  pub level_two : {left : ℕ} → Even n table left → Stuck n may source → 2 ≤ level
  unfolding allowed
  level_two {left} even stuck =
      by_eq level 1
      (λ one. absurd (never_stuck (padded_in table) left g.paired.source_most even.some
      (λ i hi. omega (arith, even.lines i (omega arith), row_sum n (padded_in table) i hi))
      (λ j hj. omega (arith, even.lines (n + j) (omega arith), column_sum n (padded_in table) j))
      (λ i j hi hj pos. (g.right.all j hj).in' i hi (omega arith))
      stuck))
      (λ ne. omega (arith, g.some))

  -- the same pairs at a lower level
  pub seek_lower : {may' : List ℕ} {level' : ℕ} → length may' ≡ length may → AtLeast n (padded_in table) level' may' → 1 ≤ level' → level' < level
      → Standing n table may' source destination level' free
  seek_lower e right some lt = record {
    table_room = g.table_room;
    rooms = record { nodes = g.rooms.nodes; mays = omega (arith, g.rooms.mays); sources = g.rooms.sources; destinations = g.rooms.destinations };
    right = right;
    paired = lower_paired g.right right (omega arith) g.paired;
    lone = g.lone;
    some = some;
    most = omega (arith, g.most);
  }

-- ---- the setting that comes next
module _ {n : ℕ} {table source before : List ℕ} {most : ℕ} (c : CanHear n table source before most) {out : List ℕ} {h : ℕ} (d : Hears n table source out most h) where
  -- what a pair lasts is no more than it gets
  pub heard_enough : (j : ℕ) → j < n → h ≤ cell n (padded_in table) (get_or source j 0) j
  heard_enough j hj =
      by_lt (cell n (kept_in table) (get_or source j 0) j) (cell n (padded_in table) (get_or source j 0) j)
      (λ lt. omega (arith, d.lasts j hj, lasting_idle (cell n (padded_in table) (get_or source j 0) j) (cell n (kept_in table) (get_or source j 0) j) lt))
      (λ le. omega (arith, d.lasts j hj, lasting_due (cell n (padded_in table) (get_or source j 0) j) (cell n (kept_in table) (get_or source j 0) j) le))

  -- a byte is its destination's source while slots are due, or idle
  byte_is : (j : ℕ) → j < n
      → ((get_or out j 0 ≡ get_or source j 0) × (cell n (padded_in table) (get_or source j 0) j ≤ cell n (kept_in table) (get_or source j 0) j))
      ⊎ ((get_or out j 0 ≡ 255) × (cell n (kept_in table) (get_or source j 0) j + h ≤ cell n (padded_in table) (get_or source j 0) j))
  byte_is j hj =
      by_lt (cell n (kept_in table) (get_or source j 0) j) (cell n (padded_in table) (get_or source j 0) j)
      (λ lt. inr (
        d.says j hj ∙ heard_idle (cell n (padded_in table) (get_or source j 0) j) (cell n (kept_in table) (get_or source j 0) j) (get_or source j 0) lt,
        omega (arith, d.lasts j hj, lasting_idle (cell n (padded_in table) (get_or source j 0) j) (cell n (kept_in table) (get_or source j 0) j) lt),
      ))
      (λ le. inl (d.says j hj ∙ heard_due (cell n (padded_in table) (get_or source j 0) j) (cell n (kept_in table) (get_or source j 0) j) (get_or source j 0) le, le))

  byte_heard : (j : ℕ) → j < n → (get_or out j 0 < n) ⊎ (get_or out j 0 ≡ 255)
  byte_heard j hj = ⊎_elim (λ a. inl (omega (arith, a.0, c.full j hj))) (λ b. inr b.0) (byte_is j hj)

  byte_source : (j : ℕ) → j < n → get_or out j 0 < n → get_or out j 0 ≡ get_or source j 0
  byte_source j hj lt = ⊎_elim (λ a. a.0) (λ b. absurd (omega (arith, b.0, c.table_room.nodes))) (byte_is j hj)

  byte_once : (j u : ℕ) → j < n → u < n → get_or out j 0 < n → get_or out j 0 ≡ get_or out u 0 → j ≡ u
  unfolding partners
  byte_once j u hj hu lt e =
      by_eq j u (λ q. q)
      (λ ne.
      let same : get_or source j 0 ≡ get_or source u 0 = sym (byte_source j hj lt) ∙ e ∙ byte_source u hu (omega arith) in
      absurd (omega (
        arith,
        sum_two n (λ k. hit (get_or source k 0) (get_or source j 0)) j u hj hu ne,
        hit_same {a = get_or source j 0} refl,
        hit_same (sym same),
        c.once (get_or source j 0) (c.full j hj),
      )))

  pub next_law : {table' : List ℕ} → Deducts n table table' source h → Next n table table' out most h
  next_law {table'} k =
      let keeps : (i j : ℕ) → cell n (kept_in table') i j ≡ cell n (kept_in table) i j = λ i j. ap (λ (x : List ℕ). cell n x i j) k.kept in
      record {
        some = d.some;
        within = d.within;
        lines = line_less k.less c.once c.full;
        dues = λ i j hi hj. by_eq (get_or source j 0) i
            (λ e.
            let o : hit (get_or source j 0) i ≡ 1 = hit_same e in
            let less : cell n (padded_in table') i j + h * 1 ≡ cell n (padded_in table) i j = rw o at (k.less.less i j hi hj) in
            ⊎_elim
            (λ a.
            let q : hit (get_or out j 0) i ≡ 1 = hit_same (a.0 ∙ e) in
            let le : cell n (padded_in table) i j ≤ cell n (kept_in table) i j = rw e at a.1 in
            rw q (omega (arith, less, le, keeps i j)))
            (λ b.
            let q : hit (get_or out j 0) i ≡ 0 = hit_other (λ r. omega (arith, b.0, c.table_room.nodes)) in
            let le : cell n (kept_in table) i j + h ≤ cell n (padded_in table) i j = rw e at b.1 in
            rw q (omega (arith, less, le, keeps i j)))
            (byte_is j hj))
            (λ ne.
            let o : hit (get_or source j 0) i ≡ 0 = hit_other ne in
            let less : cell n (padded_in table') i j + h * 0 ≡ cell n (padded_in table) i j = rw o at (k.less.less i j hi hj) in
            let q : hit (get_or out j 0) i ≡ 0 =
            ⊎_elim (λ a. hit_other (λ r. ne (sym a.0 ∙ r))) (λ b. hit_other (λ r. omega (arith, b.0, c.table_room.nodes))) (byte_is j hj) in
            rw q (omega (arith, less, keeps i j)));
        heard = byte_heard;
        once = byte_once;
        kept = k.kept;
      }

-- ---- a turn
module _ {n : ℕ} {table may source destination bytes : List ℕ} {turn : Turn} {left : ℕ} (c : CanTurn n table may source destination bytes turn left) where
  pub turn_pair : CanPair n table may source destination turn
  turn_pair = record { standing = c.standing; left = left; even = c.even }

  module _ {may' source' destination' : List ℕ} {ready : Turn} (r : Ready n table may' source' destination' turn ready) where
    pub turn_hear : CanHear n table source' bytes left
    unfolding allowed
    turn_hear = record {
      table_room = r.standing.table_room;
      sources = r.standing.rooms.sources;
      outs = c.outs;
      full = r.full.all;
      once = partners_all r.standing.paired r.full;
      gets = λ j hj. omega (
        arith,
        r.standing.some,
        (r.standing.right.all j hj).out (get_or source' j 0) (r.full.all j hj) (r.standing.paired.allows j hj (r.full.all j hj)),
      );
      some = c.even.some;
    }

    module _ {bytes' : List ℕ} {h : ℕ} (d : Hears n table source' bytes' left h) where
      pub turn_take : CanTake n table may' source' destination' ready.level h ready.free
      turn_take = record { standing = r.standing; full = r.full; enough = heard_enough turn_hear d }

      pub turn_next : {table' may'' source'' destination'' : List ℕ} {free : Free} → Parted n table source' table' may'' source'' destination'' ready.level h free
          → Turned n table table' may'' source'' destination'' bytes' left (record { slots = h; level = ready.level; held = ready.held + 1; free = free })
      turn_next p = record { next = next_law turn_hear d p.deducts; standing = p.standing; few = omega (arith, c.few, r.few, d.some) }
