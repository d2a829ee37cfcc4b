-- Writing settings into the slots of a frame, in order.
use Rattle.std.specs.Prelude.{ℕ, ◌+◌, ◌*◌, ◌≤◌, ◌<◌, ◌≡◌, List, get_or, drop}
use Rattle.sums.specs.Tables.{cell}
use Rattle.star.specs.Schedules.{reconfigurations}

-- the slots from `from` up to `to` hold the bytes, those before are as they were, and so is what comes after
pub record WroteSlots (n : ℕ) (s u bytes : List ℕ) (from to : ℕ) : Type 0 where
  pub new : (k j : ℕ) → from ≤ k → k < to → j < n → cell n u k j ≡ get_or bytes j 0
  pub old : (k j : ℕ) → k < from → j < n → cell n u k j ≡ cell n s k j
  pub beyond : drop (to * n) u ≡ drop (to * n) s

-- the slots from `from` up to `to` hold the setting, and so many reconfigurations more than before are among the slots up to `to`
pub record Extended (n : ℕ) (schedule schedule' setting : List ℕ) (from to more : ℕ) : Type 0 where
  pub wrote : WroteSlots n schedule schedule' setting from to
  pub changes : reconfigurations n to schedule' ≡ reconfigurations n from schedule + more
  pub most : more ≤ 1
