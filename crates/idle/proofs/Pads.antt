-- Padding: what each loop keeps. A pair that got the smaller of what its lines lack leaves one of them lacking nothing; rows and columns
-- lack the same in all, so in the end nobody lacks anything. The laws assume nothing.
use Prim.Native.Nat.{ℕ, ◌+◌, ◌-◌, ◌*◌, ◌≤◌, ◌<◌, min}
use native.Mathlib.Omega.{arith}
use mathlib.Core.Path.{◌≡◌, sym, ap, ◌∙◌}
use mathlib.Core.Logic.{◌⊎◌, ⊎_elim, inl, inr}
use mathlib.Core.List.{List}
use lib.ListN.{length, get_or, set, length-set}
use lib.Seq.{get_or-set_same, get_or-set_other}
use Rattle.sums.specs.Sums.{sum_to, hit}
use Rattle.sums.specs.Tables.{cell}
use Rattle.sums.proofs.Sums.{sum_ext, sum_add, sum_at, sum_all_zero, hit_same, hit_other}
use Rattle.sums.proofs.Cases.{by_eq, by_lt}
use Rattle.sums.proofs.Tables.{cell_lt, set_here, set_row, set_col}
use Rattle.star.specs.Tables.{Demands}
use Rattle.star.specs.Lines.{line_sum}
use Rattle.star.specs.LineSums.{Summed}
use Rattle.star.proofs.LineLaws.{total_rows, total_columns, line_ext, cell_in_row}
use Rattle.arrays.proofs.Stores.{square_kept}
use Rattle.cells.specs.Cells.{padded_in, Gave}
use Rattle.cells.proofs.CellLaws.{padded_at, kept_at, padded_length}
use Rattle.idle.specs.Idle.{Small, Loaded, LargestSum, Lacking, Lacks, CanPad, Fuller, PaddedAt, PaddedAll, CanFill, Padded}
use Rattle.idle.proofs.LineStores.{place_row_sum, line_more}

-- small line sums are sums of demands
pub small_demands : (n : ℕ) (kept : List ℕ) → Small n kept → Demands n kept
small_demands n kept h = record { most = λ p lt. omega (arith, place_row_sum n kept p 1024 h.lines lt) }

-- a kept cell is small
pub small_place : {n : ℕ} {kept : List ℕ} → Small n kept → (p : ℕ) → p < n * n → get_or kept p 0 < 65536
small_place {n} {kept} h p lt = omega (arith, place_row_sum n kept p 1024 h.lines lt)

-- ---- the cells before p are loaded
pub record Loading (kept table : List ℕ) (p : ℕ) : Type 0 where
  pub done : (q : ℕ) → q < p → get_or table q 0 ≡ get_or kept q 0 * 65537
  pub rest : (q : ℕ) → p ≤ q → get_or table q 0 ≡ get_or kept q 0

pub loaded_of : {n : ℕ} {kept table : List ℕ} → Small n kept → ((q : ℕ) → q < n * n → get_or table q 0 ≡ get_or kept q 0 * 65537) → Loaded n kept table
unfolding cell
loaded_of {n = n} {kept = kept} {table = table} small done =
    let at : (i j : ℕ) → i < n → j < n → get_or table (i * n + j) 0 ≡ get_or kept (i * n + j) 0 * 65537 =
    λ i j hi hj. done (i * n + j) (cell_lt n i j hi hj) in
    let low : (i j : ℕ) → i < n → j < n → get_or kept (i * n + j) 0 < 65536 =
    λ i j hi hj. small_place small (i * n + j) (cell_lt n i j hi hj) in
    record {
      padded = λ i j hi hj. padded_at table (i * n + j) ∙ omega (arith, at i j hi hj, low i j hi hj);
      keeps = λ i j hi hj. kept_at table (i * n + j) ∙ omega (arith, at i j hi hj, low i j hi hj);
    }

-- ---- what the lines below m lack, in place of their sums
pub record Lessening (sums lack : List ℕ) (r m : ℕ) : Type 0 where
  pub done : (ℓ : ℕ) → ℓ < m → get_or sums ℓ 0 + get_or lack ℓ 0 ≡ r
  pub rest : (ℓ : ℕ) → m ≤ ℓ → get_or lack ℓ 0 ≡ get_or sums ℓ 0

-- ---- one pair
pub can_kept : {n : ℕ} {v lack v' lack' : List ℕ} → length v' ≡ length v → length lack' ≡ length lack → Fuller n v lack v' lack' → CanPad n v lack → CanPad n v' lack'
can_kept {v = v} {v' = v'} ev el f c = record {
  square = square_kept v v' ev c.square;
  lines = omega (arith, c.lines);
  r = c.r;
  small = c.small;
  lacks = f.keeps c.r c.lacks;
}

module _ {n : ℕ} {v lack : List ℕ} (c : CanPad n v lack) {i j : ℕ} (hi : i < n) (hj : j < n) {row column idle : ℕ}
    (er : row ≡ get_or lack i 0) (ec : column ≡ get_or lack (n + j) 0) (ei : idle ≡ min row column) where
  -- with its idle slots the pair has no more than r
  pub pad_small : cell n (padded_in v) i j + idle ≤ 1024
  pad_small = omega (arith, cell_in_row n (padded_in v) i j hi hj, c.lacks.lines i (omega arith), c.small)

  first_other : (ℓ : ℕ) → (ℓ ≡ i → ⊥) → get_or (set lack i (row - idle)) ℓ 0 ≡ get_or lack ℓ 0
  first_other ℓ ne = get_or-set_other lack i ℓ (row - idle) 0 ne

  lack_row : get_or (set (set lack i (row - idle)) (n + j) (column - idle)) i 0 ≡ row - idle
  lack_row =
      get_or-set_other (set lack i (row - idle)) (n + j) i (column - idle) 0 (λ e. omega arith)
      ∙ get_or-set_same lack i (row - idle) 0 (omega (arith, c.lines))

  lack_column : get_or (set (set lack i (row - idle)) (n + j) (column - idle)) (n + j) 0 ≡ column - idle
  lack_column = get_or-set_same (set lack i (row - idle)) (n + j) (column - idle) 0 (omega (arith, c.lines, length-set lack i (row - idle)))

  -- both lines lack so much less
  lack_less : (ℓ : ℕ) → get_or (set (set lack i (row - idle)) (n + j) (column - idle)) ℓ 0 + idle * (hit i ℓ + hit (n + j) ℓ) ≡ get_or lack ℓ 0
  lack_less ℓ =
      by_eq i ℓ
      (λ e.
      let one : hit i ℓ ≡ 1 = hit_same e in
      let none : hit (n + j) ℓ ≡ 0 = hit_other (λ q. omega arith) in
      rw (one, none) (rw (sym e) (omega (arith, lack_row))))
      (λ ne. by_eq (n + j) ℓ
      (λ e.
      let none : hit i ℓ ≡ 0 = hit_other ne in
      let one : hit (n + j) ℓ ≡ 1 = hit_same e in
      rw (none, one) (rw (sym e) (omega (arith, lack_column))))
      (λ nc.
      let no_row : hit i ℓ ≡ 0 = hit_other ne in
      let no_column : hit (n + j) ℓ ≡ 0 = hit_other nc in
      rw (no_row, no_column)
      (omega (
        arith,
        get_or-set_other (set lack i (row - idle)) (n + j) ℓ (column - idle) 0 (λ q. nc (sym q)),
        first_other ℓ (λ q. ne (sym q)),
      ))))

  pub pad_law : {w : List ℕ} → Gave n v w i j idle → PaddedAt n v lack w (set (set lack i (row - idle)) (n + j) (column - idle)) i j
  pad_law {w} gave =
      let here : cell n (padded_in w) i j ≡ cell n (padded_in v) i j + idle =
      rw gave.padded (set_here n (padded_in v) i j (cell n (padded_in v) i j + idle) hj (omega (arith, cell_lt n i j hi hj, c.square.cells, padded_length v))) in
      let rows : (a b : ℕ) → a < n → b < n → (a ≡ i → ⊥) → cell n (padded_in w) a b ≡ cell n (padded_in v) a b =
      λ a b ha hb ne. rw gave.padded (set_row n (padded_in v) i j (cell n (padded_in v) i j + idle) hj a b hb ne) in
      let columns : (a b : ℕ) → a < n → b < n → (b ≡ j → ⊥) → cell n (padded_in w) a b ≡ cell n (padded_in v) a b =
      λ a b ha hb ne. rw gave.padded (set_col n (padded_in v) i j (cell n (padded_in v) i j + idle) hj a b hb ne) in
      record {
        fuller = record {
          keeps = λ r l. record {
            lines = λ ℓ hl. omega (arith, l.lines ℓ hl, lack_less ℓ, line_more n (padded_in v) (padded_in w) i j idle hi hj here rows columns ℓ hl);
          };
          lines = λ ℓ hl. omega (arith, lack_less ℓ);
          cells = λ a b ha hb. by_eq a i
              (λ e. by_eq b j (λ q. rw (e, q) (omega (arith, here))) (λ nb. omega (arith, columns a b ha hb nb)))
              (λ ne. omega (arith, rows a b ha hb ne));
          kept = gave.kept;
        };
        none = by_lt row column
            (λ lt. inl (lack_row ∙ omega arith))
            (λ le. inr (lack_column ∙ omega arith));
      }

-- ---- the end: rows and columns lack the same in all
module _ {n : ℕ} {v lack : List ℕ} {r : ℕ} (l : Lacks n v lack r) (none : (i j : ℕ) → i < n → j < n → (get_or lack i 0 ≡ 0) ⊎ (get_or lack (n + j) 0 ≡ 0)) where
  same_lack : sum_to n (λ i. get_or lack i 0) ≡ sum_to n (λ j. get_or lack (n + j) 0)
  same_lack = omega (
    arith,
    sum_ext n (λ i. line_sum n (padded_in v) i + get_or lack i 0) (λ i. r) (λ i hi. l.lines i (omega arith)),
    sum_ext n (λ j. line_sum n (padded_in v) (n + j) + get_or lack (n + j) 0) (λ j. r) (λ j hj. l.lines (n + j) (omega arith)),
    sum_add n (line_sum n (padded_in v)) (λ i. get_or lack i 0),
    sum_add n (λ j. line_sum n (padded_in v) (n + j)) (λ j. get_or lack (n + j) 0),
    total_rows n (padded_in v),
    total_columns n (padded_in v),
  )

  no_row : (i : ℕ) → i < n → get_or lack i 0 ≡ 0
  no_row i hi =
      by_eq (get_or lack i 0) 0 (λ e. e)
      (λ ne. omega (
        arith,
        sum_at n (λ a. get_or lack a 0) i hi,
        same_lack,
        sum_all_zero n (λ j. get_or lack (n + j) 0) (λ j hj. ⊎_elim (λ e. absurd (ne e)) (λ e. e) (none i j hi hj)),
      ))

  no_column : (j : ℕ) → j < n → get_or lack (n + j) 0 ≡ 0
  no_column j hj = omega (arith, sum_at n (λ a. get_or lack (n + a) 0) j hj, same_lack, sum_all_zero n (λ i. get_or lack i 0) no_row)

  no_lack : (ℓ : ℕ) → ℓ < 2 * n → get_or lack ℓ 0 ≡ 0
  no_lack ℓ hl =
      by_lt ℓ n (λ lt. no_row ℓ lt)
      (λ le. let e : n + (ℓ - n) ≡ ℓ = omega arith in rw e at (no_column (ℓ - n) (omega arith)))

  pub full_lines : (ℓ : ℕ) → ℓ < 2 * n → line_sum n (padded_in v) ℓ ≡ r
  full_lines ℓ hl = omega (arith, l.lines ℓ hl, no_lack ℓ hl)

-- ---- down the stairs: the rows before i and the columns before j lack nothing
pub record Stairs (n : ℕ) (v lack v' lack' : List ℕ) (i j : ℕ) : Type 0 where
  pub row_within : i ≤ n
  pub column_within : j ≤ n
  pub fuller : Fuller n v lack v' lack'
  pub rows : (a : ℕ) → a < i → get_or lack' a 0 ≡ 0
  pub columns : (b : ℕ) → b < j → get_or lack' (n + b) 0 ≡ 0

-- one side lacks nothing at all
pub stairs_end : {n : ℕ} {v lack v' lack' : List ℕ} {i j : ℕ} → Stairs n v lack v' lack' i j → (n ≤ i) ⊎ (n ≤ j) → PaddedAll n v v' lack
stairs_end {n = n} {i = i} {j = j} g side = record {
  lines = λ r l. full_lines (g.fuller.keeps r l) (λ a b ha hb. ⊎_elim (λ (h : n ≤ i). inl (g.rows a (omega arith))) (λ (h : n ≤ j). inr (g.columns b (omega arith))) side);
  cells = g.fuller.cells;
  kept = g.fuller.kept;
}

-- ---- the whole
most_small : {n : ℕ} {kept sums : List ℕ} {r : ℕ} → Small n kept → Summed n kept sums → LargestSum n sums r → r ≤ 1024
most_small small s t = t.tight 1024 (λ ℓ h. omega (arith, s.lines ℓ h, small.lines ℓ h))

-- v is the loaded table, and w the same with idle slots at pairs that keep nothing
module _ {n : ℕ} {kept v sums : List ℕ} {r : ℕ} (c : Loaded n kept v) (s : Summed n kept sums) (t : LargestSum n sums r) {lack : List ℕ} (k : Lacking n sums lack r) where
  lacks_of : Lacks n v lack r
  lacks_of = record { lines = λ ℓ h. omega (arith, k.all ℓ h, s.lines ℓ h, line_ext n (padded_in v) kept c.padded ℓ h) }

  pub loaded_can : CanFill n kept → length v ≡ length kept → 2 * n ≤ length lack → CanPad n v lack
  loaded_can f e le = record { square = square_kept kept v e f.square; lines = le; r = r; small = most_small f.small s t; lacks = lacks_of }

  pub padded_of : {w lack' w' : List ℕ} → Fuller n v lack w lack' → PaddedAll n w w' lack' → Padded n kept w' r
  padded_of f p = record {
    lines = p.lines r (f.keeps r lacks_of);
    cells = λ i j hi hj. omega (arith, f.cells i j hi hj, p.cells i j hi hj, c.padded i j hi hj);
    keeps = λ i j hi hj. ap (λ (x : List ℕ). cell n x i j) (p.kept ∙ f.kept) ∙ c.keeps i j hi hj;
    tight = λ b h. t.tight b (λ ℓ hl. omega (arith, s.lines ℓ hl, h ℓ hl));
  }
