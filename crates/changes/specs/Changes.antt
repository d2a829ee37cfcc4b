-- What a setting written from slot t on adds to the reconfigurations.
use Rattle.std.specs.Prelude.{ℕ, zero, suc, List}
use Rattle.sums.specs.Sums.{bit}
use Rattle.star.specs.Schedules.{differ}

-- 1 where the slot before slot t differs from the setting, else 0; 0 at the frame's start
unfoldable pub change_at : (n : ℕ) (s : List ℕ) (t : ℕ) (setting : List ℕ) → ℕ
change_at n s zero setting = 0
change_at n s (suc k) setting = bit (differ n s k setting 0)
