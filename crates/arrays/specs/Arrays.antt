-- What the functions on lists and schedules ask and do.
use Rattle.std.specs.Prelude.{ℕ, ◌+◌, ◌*◌, ◌≤◌, ◌<◌, ◌≡◌, List, length, get_or}

-- n nodes, l slots, and a schedule with a byte for each destination in each slot
pub record Frame (n l : ℕ) (s : List ℕ) : Type 0 where
  pub nodes : n ≤ 64
  pub slots : l ≤ 1024
  pub cells : l * n ≤ length s

-- a schedule of n nodes has a byte for each destination in slot k
pub record Slot (n : ℕ) (s : List ℕ) (k : ℕ) : Type 0 where
  pub cells : k * n + n ≤ length s

-- the first n numbers are b
pub record Filled (n : ℕ) (x : List ℕ) (b : ℕ) : Type 0 where
  pub all : (k : ℕ) → k < n → get_or x k 0 ≡ b
