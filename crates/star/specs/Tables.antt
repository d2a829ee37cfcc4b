-- Demands within their range, and tables that are alike as far as they are needed.
use Rattle.std.specs.Prelude.{ℕ, ◌*◌, ◌≤◌, ◌<◌, ◌≡◌, List, length, get_or, take}

-- one demand or arrival: 0 to 65,535
pub record Demands (n : ℕ) (d : List ℕ) : Type 0 where
  pub most : (p : ℕ) → p < n * n → get_or d p 0 ≤ 65535

-- A longer table than needed is accepted; its extra cells are neither read nor changed. Two tables that both have the m cells needed, and agree in them.
pub record Alike {A : Type 0} (m : ℕ) (one other : List A) : Type 0 where
  pub first_room : m ≤ length one
  pub second_room : m ≤ length other
  pub cells : take m one ≡ take m other
