-- The two matrices in one table: a cell holds K + 65,536×v.
use Rattle.std.specs.Prelude.{ℕ, ◌+◌, ◌-◌, ◌*◌, ◌/◌, ◌%◌, ◌≡◌, List, map, set}
use Rattle.sums.specs.Tables.{cell}

-- v: what each pair still gets, idle slots too
unfoldable pub padded_in : List ℕ → List ℕ
padded_in t = map (λ x. x / 65536) t

-- K: what each pair keeps
unfoldable pub kept_in : List ℕ → List ℕ
kept_in t = map (λ x. x % 65536) t

-- the pair gets h more, and keeps what it did
pub record Gave (n : ℕ) (x y : List ℕ) (i j h : ℕ) : Type 0 where
  pub padded : padded_in y ≡ set (padded_in x) (i * n + j) (cell n (padded_in x) i j + h)
  pub kept : kept_in y ≡ kept_in x

-- the pair gets h less, and keeps what it did
pub record Took (n : ℕ) (x y : List ℕ) (i j h : ℕ) : Type 0 where
  pub padded : padded_in y ≡ set (padded_in x) (i * n + j) (cell n (padded_in x) i j - h)
  pub kept : kept_in y ≡ kept_in x
