-- What the functions on tables ask: a square table of n nodes that is long enough, and capacities within their range.
use Rattle.std.specs.Prelude.{ℕ, ◌*◌, ◌≤◌, ◌<◌, List, length, get_or}

-- n nodes, and a table with a cell for each pair
pub record Square (n : ℕ) (d : List ℕ) : Type 0 where
  pub nodes : n ≤ 64
  pub cells : n * n ≤ length d

-- a capacity for each of the 2N lines, at most 1,024
pub record Capacities (n : ℕ) (cap : List ℕ) : Type 0 where
  pub lines : 2 * n ≤ length cap
  pub most : (ℓ : ℕ) → ℓ < 2 * n → get_or cap ℓ 0 ≤ 1024
