-- Demands above 65,535 in a row: how many, and the first.
use Rattle.std.specs.Prelude.{ℕ, ◌≤◌, ◌<◌, List, ltb}
use Rattle.sums.specs.Sums.{sum_to, bit}
use Rattle.sums.specs.Tables.{cell}

-- how many of the first m demands of row i are above 65,535
unfoldable pub above_to : (n : ℕ) (d : List ℕ) (i m : ℕ) → ℕ
above_to n d i m = sum_to m (λ j. bit (ltb 65535 (cell n d i j)))

-- no demand of row i is above 65,535
abbrev pub RowWithin : (n : ℕ) (d : List ℕ) (i : ℕ) → Type 0
RowWithin n d i = (v : ℕ) → v < n → cell n d i v ≤ 65535

-- the first demand of row i above 65,535 is that of destination j
pub record FirstInRow (n : ℕ) (d : List ℕ) (i j : ℕ) : Type 0 where
  pub inside : j < n
  pub before : (v : ℕ) → v < j → cell n d i v ≤ 65535
  pub here : 65535 < cell n d i j
