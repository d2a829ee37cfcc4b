-- A matrix that grows until it is full.
use Rattle.std.specs.Prelude.{ℕ, ◌+◌, ◌*◌, ◌≤◌, ◌<◌, ◌≡◌, List, length, get_or}
use Rattle.sums.specs.Tables.{cell}
use Rattle.growth.specs.Growth.{Below, SpansKept}
use Rattle.growth.specs.Sides.{Sides}

-- a matrix of zeros, to begin with
pub record Empty (n : ℕ) (bound a headroom marks : List ℕ) : Type 0 where
  pub below : Below n bound a
  pub zeros : (i j : ℕ) → i < n → j < n → cell n a i j ≡ 0
  pub headrooms : 2 * n ≤ length headroom
  pub lines : 2 * n ≤ length marks

pub record CanGrow (n : ℕ) (bound a headroom offers takers marks : List ℕ) : Type 0 where
  pub sides : Sides n bound a offers takers
  pub headrooms : 2 * n ≤ length headroom
  pub lines : 2 * n ≤ length marks

-- a matrix in which nothing can go from a row with headroom to a column with headroom; the marks show it
pub record Grown (n : ℕ) (bound a headroom a' headroom' marks' : List ℕ) : Type 0 where
  pub below : (i j : ℕ) → i < n → j < n → cell n a' i j ≤ cell n bound i j
  pub kept : SpansKept n a headroom a' headroom'
  pub rows : (i : ℕ) → i < n → get_or marks' i 0 ≡ 0 → get_or headroom' i 0 ≡ 0
  pub columns : (j : ℕ) → j < n → 0 < get_or marks' (n + j) 0 → get_or headroom' (n + j) 0 ≡ 0
  pub full : (i j : ℕ) → i < n → j < n → 0 < get_or marks' i 0 → get_or marks' (n + j) 0 ≡ 0 → cell n a' i j ≡ cell n bound i j
  pub empty : (i j : ℕ) → i < n → j < n → get_or marks' i 0 ≡ 0 → 0 < get_or marks' (n + j) 0 → cell n a' i j ≡ 0
