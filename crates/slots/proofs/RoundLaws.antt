-- The rounds: what holds before each turn, and how they start and end. The laws assume nothing.
use mathlib.Core.Path.{◌≡◌, refl, sym, ap, ◌∙◌, subst}
use mathlib.Core.Logic.{◌⊎◌, inr}
use mathlib.Core.List.{List, ◌++◌}
use Prim.Native.Nat.{ℕ, ◌+◌, ◌-◌, ◌*◌, ◌≤◌, ◌<◌}
use native.Mathlib.Omega.{arith}
use lib.ListN.{length, get_or, take, drop, take-append-drop}
use lib.Seq.{length-take-le}
use Rattle.sums.specs.Sums.{sum_to, hit}
use Rattle.sums.specs.Tables.{cell}
use Rattle.sums.proofs.Sums.{sum_ext, sum_none, sum_run, hit_other}
use Rattle.sums.proofs.Cases.{by_lt}
use Rattle.sums.proofs.Tables.{take_cell}
use Rattle.star.specs.Schedules.{count, reconfigurations}
use Rattle.star.proofs.LineLaws.{line_ext, cell_in_row, capacity}
use Rattle.arrays.specs.Arrays.{Frame}
use Rattle.arrays.proofs.Stores.{square_kept, frame_kept, frame_less, beyond_more}
use Rattle.cells.specs.Cells.{padded_in, kept_in}
use Rattle.cells.proofs.CellLaws.{nothing_left}
use Rattle.changes.proofs.ChangeLaws.{changes_most}
use Rattle.idle.specs.Idle.{Small, Padded}
use Rattle.holds.specs.declared.turns.Turn.{Turn}
use Rattle.holds.specs.Turns.{Standing, Begun, CanTurn, Turned}
use Rattle.slots.specs.Writing.{Extended}
use Rattle.slots.specs.Rounds.{Placed, CanSettle, Rounded}
use Rattle.slots.specs.Places.{CanPlace, Rested, Places}
use Rattle.slots.proofs.WriteLaws.{placed_more}

-- before a turn
pub record Rounding (n r : ℕ) (table0 may0 source0 destination0 bytes0 schedule0 table may source destination bytes schedule : List ℕ) (turn : Turn) (changes t : ℕ) : Type 0 where
  pub table_len : length table ≡ length table0
  pub may_len : length may ≡ length may0
  pub source_len : length source ≡ length source0
  pub destination_len : length destination ≡ length destination0
  pub bytes_len : length bytes ≡ length bytes0
  pub schedule_len : length schedule ≡ length schedule0
  pub placed : Placed n r t table schedule
  pub kept : kept_in table ≡ kept_in table0
  pub changed : changes ≡ reconfigurations n t schedule
  pub standing : Standing n table may source destination turn.level turn.free
  pub within : t ≤ r
  pub few : turn.held + r ≤ 1024 + t
  pub beyond : drop (r * n) schedule ≡ drop (r * n) schedule0

pub round_start : {n r : ℕ} {table may source destination bytes schedule : List ℕ} {turn : Turn} → CanSettle n r table schedule → Begun n table may source destination turn
    → Rounding n r table may source destination bytes schedule table may source destination bytes schedule turn 0 0
round_start {n} {schedule = schedule} c b = record {
  table_len = refl;
  may_len = refl;
  source_len = refl;
  destination_len = refl;
  bytes_len = refl;
  schedule_len = refl;
  placed = c.placed;
  kept = refl;
  changed = omega (arith, changes_most n 0 schedule);
  standing = b.standing;
  within = omega arith;
  few = omega (arith, b.none, c.frame.slots);
  beyond = refl;
}

module _ {n r : ℕ} {table0 may0 source0 destination0 bytes0 schedule0 table may source destination bytes schedule : List ℕ} {turn : Turn} {changes t : ℕ}
    (c : CanSettle n r table0 schedule0)
    (g : Rounding n r table0 may0 source0 destination0 bytes0 schedule0 table may source destination bytes schedule turn changes t) where
  pub round_turn : t < r → n ≤ length bytes0 → CanTurn n table may source destination bytes turn (r - t)
  round_turn lt outs = record {
    standing = g.standing;
    even = record { lines = λ ℓ hl. omega (arith, g.placed.lines ℓ hl); some = omega arith };
    few = omega (arith, g.few);
    outs = omega (arith, outs, g.bytes_len);
  }

  pub round_frame : {to : ℕ} → to ≤ r → Frame n to schedule
  round_frame le = frame_less (frame_kept schedule0 schedule g.schedule_len c.frame) le

  -- ---- the setting is written
  module _ {table' may' source' destination' bytes' schedule' : List ℕ} {turn' : Turn} {more : ℕ} (d : Turned n table table' may' source' destination' bytes' (r - t) turn')
      (x : Extended n schedule schedule' bytes' t (t + turn'.slots) more) (lt : t < r) where
    pub round_more : length table' ≡ length table → length may' ≡ length may → length source' ≡ length source → length destination' ≡ length destination → length bytes' ≡ length bytes
        → length schedule' ≡ length schedule
        → Rounding n r table0 may0 source0 destination0 bytes0 schedule0 table' may' source' destination' bytes' schedule' turn' (changes + more) (t + turn'.slots)
    round_more et em es ed eb ec = record {
      table_len = et ∙ g.table_len;
      may_len = em ∙ g.may_len;
      source_len = es ∙ g.source_len;
      destination_len = ed ∙ g.destination_len;
      bytes_len = eb ∙ g.bytes_len;
      schedule_len = ec ∙ g.schedule_len;
      placed = placed_more d.next x.wrote g.placed;
      kept = d.next.kept ∙ g.kept;
      changed = omega (arith, g.changed, x.changes);
      standing = d.standing;
      within = omega (arith, d.next.within);
      few = omega (arith, d.few, g.few);
      beyond = beyond_more n (t + turn'.slots) r schedule' schedule (omega (arith, d.next.within)) x.wrote.beyond ∙ g.beyond;
    }

  pub round_few : changes ≤ t
  round_few = omega (arith, g.changed, changes_most n t schedule)

  -- ---- all is held
  pub round_end : r ≤ t → Rounded n r table0 schedule0 table schedule changes
  round_end le =
      let e : t ≡ r = omega (arith, g.within) in
      let none : (i j : ℕ) → i < n → j < n → cell n (padded_in table) i j ≡ 0 =
      λ i j hi hj. omega (arith, cell_in_row n (padded_in table) i j hi hj, g.placed.lines i (omega arith)) in
      record {
        carries = record {
          free = rw (sym e) g.placed.free;
          exact = λ i j hi hj. rw (sym e) (omega (arith, g.placed.counts i j hi hj, none i j hi hj, ap (λ (x : List ℕ). cell n x i j) g.kept));
        };
        changed = rw (sym e) g.changed;
        nothing = none;
        kept = g.kept;
        beyond = g.beyond;
      }

-- ---- the slots after r
pub rest_some : {n r l : ℕ} {s u idle : List ℕ} {more : ℕ} → ((j : ℕ) → j < n → get_or idle j 0 ≡ 255) → Extended n s u idle r l more → Rested n r l s u more
rest_some says x = record {
  idle = λ k j lo hi hj. x.wrote.new k j lo hi hj ∙ says j hj;
  old = x.wrote.old;
  changes = x.changes;
  most = x.most;
  beyond = x.wrote.beyond;
}

rest_count : {n r l : ℕ} {s u : List ℕ} {more : ℕ} → n ≤ 64 → r ≤ l → Rested n r l s u more → (i j : ℕ) → i < n → j < n → count n l u i j ≡ count n r s i j
unfolding count
rest_count {n} {r} {l} {s} {u} small le w i j hi hj =
    let far : r + (l - r) ≡ l = omega arith in
    let run : sum_to (r + (l - r)) (λ k. hit (cell n u k j) i) ≡ sum_to r (λ k. hit (cell n u k j) i) + (l - r) * 0 =
    sum_run r (l - r) 0 (λ k. hit (cell n u k j) i) (λ k lo up. hit_other (λ q. omega (arith, w.idle k j lo (omega arith) hj))) in
    omega (
      arith,
      rw far at run,
      sum_ext r (λ k. hit (cell n u k j) i) (λ k. hit (cell n s k j) i) (λ k hk. ap (λ (x : ℕ). hit x i) (w.old k j hk hj)),
    )

-- ---- the start and the end of placing
module _ {n l : ℕ} {kept schedule : List ℕ} (c : CanPlace n l kept schedule) where
  pub place_small : Small n kept
  place_small = record { lines = λ ℓ hl. omega (arith, c.admissible.lines ℓ hl, capacity n l ℓ hl, c.frame.slots) }

  module _ {table : List ℕ} {r : ℕ} (p : Padded n kept table r) where
    pub place_most : r ≤ l
    place_most = p.tight l (λ ℓ hl. omega (arith, c.admissible.lines ℓ hl, capacity n l ℓ hl))

    pub place_none : Placed n r 0 table schedule
    unfolding count
    place_none = record {
      lines = λ ℓ hl. omega (arith, p.lines ℓ hl);
      counts = λ i j hi hj. omega (arith, sum_none (λ q. hit (cell n schedule q j) i), p.cells i j hi hj, p.keeps i j hi hj);
      free = record { heard = λ q j lt. absurd (omega arith); once = λ q j u lt. absurd (omega arith) };
    }

    pub place_settle : length table ≡ length kept → CanSettle n r table schedule
    place_settle e = record { table_room = square_kept kept table e c.square; frame = frame_less c.frame place_most; placed = place_none }

    -- the slots after r are idle
    pub place_end : {table' written final : List ℕ} {changes more : ℕ} → length kept ≡ n * n → length table' ≡ length kept → Rounded n r table schedule table' written changes
        → Rested n r l written final more → Places n l kept schedule table' final (changes + more)
    place_end {table'} {written} {final} exact len g w =
        record {
          carries = record {
            free = record {
              heard = λ k j hk hj. by_lt k r
                  (λ lo. subst (λ (x : ℕ). (x < n) ⊎ (x ≡ 255)) (sym (w.old k j lo hj)) (g.carries.free.heard k j lo hj))
                  (λ hi. inr (w.idle k j hi hk hj));
              once = λ k j v hk hj hv lt e. by_lt k r
                  (λ lo. g.carries.free.once k j v lo hj hv (omega (arith, w.old k j lo hj)) (sym (w.old k j lo hj) ∙ e ∙ w.old k v lo hv))
                  (λ hi. absurd (omega (arith, w.idle k j hi hk hj, c.frame.nodes)));
            };
            exact = λ i j hi hj. omega (arith, rest_count c.frame.nodes place_most w i j hi hj, g.carries.exact i j hi hj, p.keeps i j hi hj);
          };
          changed = omega (arith, g.changed, w.changes);
          same = nothing_left (len ∙ exact) exact (λ i j hi hj. ap (λ (x : List ℕ). cell n x i j) g.kept ∙ p.keeps i j hi hj) g.nothing;
          beyond = w.beyond ∙ beyond_more n r l written schedule place_most g.beyond;
        }

-- ---- the first n * n cells of a longer table
front_cell : (n : ℕ) (kept : List ℕ) (i j : ℕ) → i < n → j < n → cell n (take (n * n) kept) i j ≡ cell n kept i j
front_cell n kept i j hi hj = sym (take_cell n kept (take (n * n) kept) refl i j hi hj)

pub front_can : {n l : ℕ} {kept schedule : List ℕ} → CanPlace n l kept schedule → CanPlace n l (take (n * n) kept) schedule
front_can {n} {l} {kept} c = record {
  square = record { nodes = c.square.nodes; cells = omega (arith, length-take-le (n * n) kept c.square.cells) };
  frame = c.frame;
  admissible = record { lines = λ ℓ hl. omega (arith, line_ext n (take (n * n) kept) kept (front_cell n kept) ℓ hl, c.admissible.lines ℓ hl) };
}

pub front_places : {n l : ℕ} {kept schedule front schedule' : List ℕ} {changes : ℕ} → Places n l (take (n * n) kept) schedule front schedule' changes
    → Places n l kept schedule (front ++ drop (n * n) kept) schedule' changes
front_places {n} {l} {kept} p = record {
  carries = record { free = p.carries.free; exact = λ i j hi hj. p.carries.exact i j hi hj ∙ front_cell n kept i j hi hj };
  changed = p.changed;
  same = ap (λ (x : List ℕ). x ++ drop (n * n) kept) p.same ∙ take-append-drop (n * n) kept;
  beyond = p.beyond;
}
