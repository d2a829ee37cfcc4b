-- Placing a kept matrix into the frame.
use Rattle.std.specs.Prelude.{ℕ, ◌+◌, ◌*◌, ◌≤◌, ◌<◌, ◌≡◌, List, drop}
use Rattle.sums.specs.Tables.{cell}
use Rattle.star.specs.Lines.{whole_frame, Admissible}
use Rattle.star.specs.Schedules.{Carries, reconfigurations}
use Rattle.star.specs.Rooms.{Square}
use Rattle.arrays.specs.Arrays.{Frame}

-- The kept matrix is admissible: no line above L.
pub record CanPlace (n l : ℕ) (kept schedule : List ℕ) : Type 0 where
  pub square : Square n kept
  pub frame : Frame n l schedule
  pub admissible : Admissible n (whole_frame n l) kept

-- The schedule names source i for destination j exactly kept(i,j) times and holds 255 elsewhere; its extra cells are not changed, and the
-- kept table is as it was. The answer is the number of reconfigurations.
pub record Places (n l : ℕ) (kept schedule kept' schedule' : List ℕ) (changes : ℕ) : Type 0 where
  pub carries : Carries n l schedule' kept
  pub changed : changes ≡ reconfigurations n l schedule'
  pub same : kept' ≡ kept
  pub beyond : drop (l * n) schedule' ≡ drop (l * n) schedule

-- The slots from r up to l are idle; those before are as they were, and so is what comes after.
pub record Rested (n r l : ℕ) (schedule schedule' : List ℕ) (more : ℕ) : Type 0 where
  pub idle : (k j : ℕ) → r ≤ k → k < l → j < n → cell n schedule' k j ≡ 255
  pub old : (k j : ℕ) → k < r → j < n → cell n schedule' k j ≡ cell n schedule k j
  pub changes : reconfigurations n l schedule' ≡ reconfigurations n r schedule + more
  pub most : more ≤ 1
  pub beyond : drop (l * n) schedule' ≡ drop (l * n) schedule
