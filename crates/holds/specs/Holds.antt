-- What a pairing sets the switch to, and for how long. A table has for each pair what it keeps and what it still gets, idle slots too; `source`
-- has each destination's source, and `bytes` what each destination hears meanwhile.
use Rattle.std.specs.Prelude.{ℕ, ◌+◌, ◌-◌, ◌*◌, ◌<◌, ◌≤◌, min, ◌≡◌, ◌⊎◌, cond, List, length, get_or, ltb}
use Rattle.sums.specs.Sums.{hit}
use Rattle.sums.specs.Tables.{cell}
use Rattle.star.specs.Lines.{line_sum}
use Rattle.star.specs.Rooms.{Square}
use Rattle.cells.specs.Cells.{padded_in, kept_in}
use Rattle.pairs.specs.Pairs.{partners}

-- for how many slots a pair's byte stays the same: as long as it is idle, and then as long as it is due
unfoldable pub lasting : (padded kept : ℕ) → ℕ
lasting padded kept = cond (ltb kept padded) (padded - kept) padded

-- what is heard from source i: 255, nobody, while the pair is idle, and then the source
unfoldable pub heard_from : (padded kept i : ℕ) → ℕ
heard_from padded kept i = cond (ltb kept padded) 255 i

-- idle slots come first, so of the slots that a pair still gets as many are due as it keeps
abbrev pub due : (n : ℕ) (table : List ℕ) (i j : ℕ) → ℕ
due n table i j = min (cell n (padded_in table) i j) (cell n (kept_in table) i j)

-- every destination has a source, each source once, and each pair still gets slots
pub record CanHear (n : ℕ) (table source bytes : List ℕ) (most : ℕ) : Type 0 where
  pub table_room : Square n table
  pub sources : n ≤ length source
  pub outs : n ≤ length bytes
  pub full : (j : ℕ) → j < n → get_or source j 0 < n
  pub once : (i : ℕ) → i < n → partners n source i ≡ 1
  pub gets : (j : ℕ) → j < n → 1 ≤ cell n (padded_in table) (get_or source j 0) j
  pub some : 1 ≤ most

pub record Hears (n : ℕ) (table source bytes : List ℕ) (most h : ℕ) : Type 0 where
  pub some : 1 ≤ h
  pub within : h ≤ most
  pub lasts : (j : ℕ) → j < n → h ≤ lasting (cell n (padded_in table) (get_or source j 0) j) (cell n (kept_in table) (get_or source j 0) j)
  pub says : (j : ℕ) → j < n → get_or bytes j 0 ≡ heard_from (cell n (padded_in table) (get_or source j 0) j) (cell n (kept_in table) (get_or source j 0) j) (get_or source j 0)

-- y is x with h less at the pair of each destination and its source
pub record Deducted (n : ℕ) (x y source : List ℕ) (h : ℕ) : Type 0 where
  pub less : (i j : ℕ) → i < n → j < n → cell n y i j + h * hit (get_or source j 0) i ≡ cell n x i j

-- each pair gets so much less, and keeps what it did
pub record Deducts (n : ℕ) (table table' source : List ℕ) (h : ℕ) : Type 0 where
  pub less : Deducted n (padded_in table) (padded_in table') source h
  pub kept : kept_in table' ≡ kept_in table

-- The setting that comes next: it is held for h slots, and those are taken. Nobody hears two sources, no source is heard twice, the slots
-- that are due no longer are those in which the pair is heard, and the pairs keep what they did.
pub record Next (n : ℕ) (table table' bytes : List ℕ) (left h : ℕ) : Type 0 where
  pub some : 1 ≤ h
  pub within : h ≤ left
  pub lines : (ℓ : ℕ) → ℓ < 2 * n → line_sum n (padded_in table') ℓ + h ≡ line_sum n (padded_in table) ℓ
  pub dues : (i j : ℕ) → i < n → j < n → due n table' i j + h * hit (get_or bytes j 0) i ≡ due n table i j
  pub heard : (j : ℕ) → j < n → (get_or bytes j 0 < n) ⊎ (get_or bytes j 0 ≡ 255)
  pub once : (j v : ℕ) → j < n → v < n → get_or bytes j 0 < n → get_or bytes j 0 ≡ get_or bytes v 0 → j ≡ v
  pub kept : kept_in table' ≡ kept_in table
