-- Lines: a row's and a column's cells and sums, the total by rows and by columns, the sum over all lines, slack and excess as plain numbers. The laws
-- assume nothing.
use Prim.Native.Nat.{ℕ, ◌+◌, ◌-◌, ◌*◌, ◌/◌, ◌%◌, ◌≤◌, ◌<◌}
use native.Mathlib.Omega.{arith}
use mathlib.Core.Path.{◌≡◌, sym, ◌∙◌, ap, ap₂}
use mathlib.Core.List.{List}
use lib.ListN.{get_or, take, replicate, length-replicate, get_or-replicate}
use lib.Dec.{ltb}
use borrow.Author.Tests.{lt-ltb, le-ltb}
use Rattle.sums.specs.Sums.{sum_to}
use Rattle.sums.specs.Tables.{cell}
use Rattle.sums.proofs.Sums.{sum_ext, sum_swap, sum_all_zero, sum_at, sum_most, sum_mono, sum_split}
use Rattle.sums.proofs.Cases.{by_lt}
use Rattle.sums.proofs.Tables.{cell_lt, place_split, take_replicate}
use Rattle.star.specs.Tables.{Demands}
use Rattle.star.specs.Lines.{source_on, destination_on, on_line, line_sum, total, whole_frame, slack, overflows, excess}
use Rattle.star.specs.Rooms.{Capacities}
use Rattle.star.proofs.SignedLaws.{excess_of_sub, negative_sub}

-- ---- cells of a line
pub on_row : (n : ℕ) (d : List ℕ) (ℓ t : ℕ) → ℓ < n → on_line n d ℓ t ≡ cell n d ℓ t
unfolding on_line source_on destination_on
on_row n d ℓ t h = simp (lt-ltb ℓ n h)

pub on_column : (n : ℕ) (d : List ℕ) (ℓ t : ℕ) → n ≤ ℓ → on_line n d ℓ t ≡ cell n d t (ℓ - n)
unfolding on_line source_on destination_on
on_column n d ℓ t h = simp (le-ltb ℓ n h)

-- the t-th cell of column j
pub in_column : (n : ℕ) (d : List ℕ) (j t : ℕ) → on_line n d (n + j) t ≡ cell n d t j
in_column n d j t = on_column n d (n + j) t (omega arith) ∙ ap (cell n d t) (omega arith)

pub source_lt : (n ℓ t : ℕ) → ℓ < 2 * n → t < n → source_on n ℓ t < n
unfolding source_on
source_lt n ℓ t hl ht = by_lt ℓ n (λ h. rw (lt-ltb ℓ n h) h) (λ h. rw (le-ltb ℓ n h) ht)

pub destination_lt : (n ℓ t : ℕ) → ℓ < 2 * n → t < n → destination_on n ℓ t < n
unfolding destination_on
destination_lt n ℓ t hl ht = by_lt ℓ n (λ h. rw (lt-ltb ℓ n h) ht) (λ h. rw (le-ltb ℓ n h) (omega arith))

-- a demand is at most 65,535, on a line too
pub on_line_most : (n : ℕ) (d : List ℕ) (ℓ t : ℕ) → Demands n d → ℓ < 2 * n → t < n → on_line n d ℓ t ≤ 65535
unfolding on_line cell
on_line_most n d ℓ t h hl ht = h.most _ (cell_lt n _ _ (source_lt n ℓ t hl ht) (destination_lt n ℓ t hl ht))

-- numbers that are at most demands are demands
pub demands_below : (n : ℕ) (d e : List ℕ) → Demands n d → ((i j : ℕ) → i < n → j < n → cell n e i j ≤ cell n d i j) → Demands n e
unfolding cell
demands_below n d e most below = record {
  most = λ p h.
      let at = place_split n p h in
      let less = below (p / n) (p % n) at.0 at.1.0 in
      omega (arith, most.most p h, rw at.1.1 at less);
}

-- ---- sums
pub row_sum : (n : ℕ) (d : List ℕ) (i : ℕ) → i < n → line_sum n d i ≡ sum_to n (λ j. cell n d i j)
unfolding line_sum
row_sum n d i h = sum_ext n _ _ (λ t p. on_row n d i t h)

pub column_sum : (n : ℕ) (d : List ℕ) (j : ℕ) → line_sum n d (n + j) ≡ sum_to n (λ i. cell n d i j)
unfolding line_sum
column_sum n d j = sum_ext n _ _ (λ t p. in_column n d j t)

-- a line of demands is at most 64 × 65,535
pub line_most : (n : ℕ) (d : List ℕ) (ℓ : ℕ) → n ≤ 64 → Demands n d → ℓ < 2 * n → line_sum n d ℓ ≤ 4194240
unfolding line_sum
line_most n d ℓ few h hl = omega (arith, sum_most n 65535 (on_line n d ℓ) (λ t ht. on_line_most n d ℓ t h hl ht))

pub cell_in_row : (n : ℕ) (a : List ℕ) (i j : ℕ) → i < n → j < n → cell n a i j ≤ line_sum n a i
cell_in_row n a i j p q = rw (row_sum n a i p) (sum_at n (λ j. cell n a i j) j q)

pub cell_in_column : (n : ℕ) (a : List ℕ) (i j : ℕ) → i < n → cell n a i j ≤ line_sum n a (n + j)
cell_in_column n a i j p = rw (column_sum n a j) (sum_at n (λ i. cell n a i j) i p)

-- matrices that agree at each pair have the same line sums and total
module _ (n : ℕ) (d e : List ℕ) (same : (i j : ℕ) → i < n → j < n → cell n d i j ≡ cell n e i j) where
  pub line_ext : (ℓ : ℕ) → ℓ < 2 * n → line_sum n d ℓ ≡ line_sum n e ℓ
  unfolding line_sum on_line
  line_ext ℓ h = sum_ext n _ _ (λ t p. same _ _ (source_lt n ℓ t h p) (destination_lt n ℓ t h p))

  pub total_ext : total n d ≡ total n e
  unfolding total
  total_ext = sum_ext n _ _ (λ i p. sum_ext n _ _ (λ j q. same i j p q))

-- a matrix that is nowhere above another has no larger line
pub line_mono : (n : ℕ) (k d : List ℕ) → ((i j : ℕ) → i < n → j < n → cell n k i j ≤ cell n d i j) → (ℓ : ℕ) → ℓ < 2 * n → line_sum n k ℓ ≤ line_sum n d ℓ
unfolding line_sum on_line
line_mono n k d below ℓ h = sum_mono n _ _ (λ t p. below _ _ (source_lt n ℓ t h p) (destination_lt n ℓ t h p))

-- a matrix of zeros has line sums 0
pub line_zero : (n : ℕ) (d : List ℕ) → ((i j : ℕ) → i < n → j < n → cell n d i j ≡ 0) → (ℓ : ℕ) → ℓ < 2 * n → line_sum n d ℓ ≡ 0
unfolding line_sum on_line
line_zero n d zeros ℓ h = sum_all_zero n _ (λ t p. zeros _ _ (source_lt n ℓ t h p) (destination_lt n ℓ t h p))

pub total_rows : (n : ℕ) (d : List ℕ) → total n d ≡ sum_to n (λ i. line_sum n d i)
unfolding total
total_rows n d = sum_ext n _ _ (λ i p. sym (row_sum n d i p))

pub total_columns : (n : ℕ) (d : List ℕ) → total n d ≡ sum_to n (λ j. line_sum n d (n + j))
unfolding total
total_columns n d = sum_swap n n (cell n d) ∙ sum_ext n _ _ (λ j p. sym (column_sum n d j))

-- a sum over all lines: the rows, then the columns
pub sum_lines : (n : ℕ) (f : ℕ → ℕ) → sum_to (2 * n) f ≡ sum_to n f + sum_to n (λ j. f (n + j))
sum_lines n f = let e : 2 * n ≡ n + n = omega arith in rw e (sum_split n n f)

-- every cell lies on two lines
pub lines_twice : (n : ℕ) (d : List ℕ) → sum_to (2 * n) (line_sum n d) ≡ total n d + total n d
lines_twice n d = sum_lines n (line_sum n d) ∙ ap₂ ◌+◌ (sym (total_rows n d)) (sym (total_columns n d))

-- ---- slack and excess
pub capacity : (n l ℓ : ℕ) → ℓ < 2 * n → get_or (whole_frame n l) ℓ 0 ≡ l
unfolding whole_frame
capacity n l ℓ h = get_or-replicate (2 * n) ℓ l 0 h

-- a table of 128 cells that all hold L begins with the 2N capacities
pub whole_frame_lem : (n l : ℕ) → n ≤ 64 → take (2 * n) (replicate 128 l) ≡ whole_frame n l
unfolding whole_frame
whole_frame_lem n l h = take_replicate (2 * n) 128 l (omega arith)

pub whole_frame_fits : (n l : ℕ) → l ≤ 1024 → Capacities n (whole_frame n l)
unfolding whole_frame
whole_frame_fits n l h = record { lines = omega (arith, length-replicate (2 * n) l); most = λ ℓ p. omega (arith, get_or-replicate (2 * n) ℓ l 0 p) }

pub excess_is : (n : ℕ) (cap d : List ℕ) (ℓ : ℕ) → excess n cap d ℓ ≡ line_sum n d ℓ - get_or cap ℓ 0
unfolding excess slack
excess_is n cap d ℓ = excess_of_sub (get_or cap ℓ 0) (line_sum n d ℓ)

pub overflows_is : (n : ℕ) (cap d : List ℕ) (ℓ : ℕ) → overflows n cap d ℓ ≡ ltb (get_or cap ℓ 0) (line_sum n d ℓ)
unfolding overflows slack
overflows_is n cap d ℓ = negative_sub (get_or cap ℓ 0) (line_sum n d ℓ)
