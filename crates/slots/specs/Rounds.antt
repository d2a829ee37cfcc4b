-- Turn after turn, until all r slots are written.
use Rattle.std.specs.Prelude.{ℕ, ◌+◌, ◌*◌, ◌≤◌, ◌<◌, ◌≡◌, List, length, drop}
use Rattle.sums.specs.Tables.{cell}
use Rattle.star.specs.Lines.{line_sum}
use Rattle.star.specs.Schedules.{ConflictFree, count, Carries, reconfigurations}
use Rattle.star.specs.Rooms.{Square}
use Rattle.arrays.specs.Arrays.{Frame}
use Rattle.cells.specs.Cells.{padded_in, kept_in}
use Rattle.pairs.specs.Pairs.{Rooms}
use Rattle.holds.specs.Holds.{due}

-- what the pairs keep is placed up to slot t of r: every line has the slots that are left, and what is counted and what is due make what is kept
pub record Placed (n r t : ℕ) (table schedule : List ℕ) : Type 0 where
  pub lines : (ℓ : ℕ) → ℓ < 2 * n → line_sum n (padded_in table) ℓ + t ≡ r
  pub counts : (i j : ℕ) → i < n → j < n → count n t schedule i j + due n table i j ≡ cell n (kept_in table) i j
  pub free : ConflictFree n t schedule

-- what the pairs keep is placed up to slot 0 of r
pub record CanSettle (n r : ℕ) (table schedule : List ℕ) : Type 0 where
  pub table_room : Square n table
  pub frame : Frame n r schedule
  pub placed : Placed n r 0 table schedule

pub record CanRound (n r : ℕ) (table may source destination bytes schedule : List ℕ) : Type 0 where
  pub settle : CanSettle n r table schedule
  pub rooms : Rooms n may source destination
  pub outs : n ≤ length bytes

-- what the pairs keep is carried by the r slots, with so many reconfigurations; the pairs get no more, and what comes after is as it was
pub record Rounded (n r : ℕ) (table schedule table' schedule' : List ℕ) (changes : ℕ) : Type 0 where
  pub carries : Carries n r schedule' (kept_in table)
  pub changed : changes ≡ reconfigurations n r schedule'
  pub nothing : (i j : ℕ) → i < n → j < n → cell n (padded_in table') i j ≡ 0
  pub kept : kept_in table' ≡ kept_in table
  pub beyond : drop (r * n) schedule' ≡ drop (r * n) schedule
