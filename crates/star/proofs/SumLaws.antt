-- The sums of all lines in one pass over the rows: a cell goes into its column's sum, and a row's own sum is stored once the row is passed. By one term
-- more of a column's sum. Assumes nothing.
use Prim.Native.Nat.{ℕ, ◌+◌, ◌-◌, ◌*◌, ◌≤◌, ◌<◌}
use native.Mathlib.Omega.{arith}
use mathlib.Core.Path.{◌≡◌, sym, ◌∙◌}
use mathlib.Core.List.{List}
use lib.ListN.{length, get_or, set}
use lib.Seq.{get_or-set_same, get_or-set_other}
use Rattle.sums.specs.Sums.{sum_to}
use Rattle.sums.specs.Tables.{cell}
use Rattle.sums.proofs.Sums.{sum_none, sum_more, sum_most, sum_done}
use Rattle.sums.proofs.Cases.{by_eq, by_lt}
use Rattle.sums.proofs.Tables.{cell_lt}
use Rattle.star.specs.Tables.{Demands}
use Rattle.star.specs.LineSums.{Summed, Unsummed, SummedTo}
use Rattle.star.proofs.LineLaws.{column_sum}

-- a demand is at most 65,535
pub cell_most : (n : ℕ) (d : List ℕ) (i j : ℕ) → Demands n d → i < n → j < n → cell n d i j ≤ 65535
unfolding cell
cell_most n d i j h hi hj = h.most (i * n + j) (cell_lt n i j hi hj)

-- the first cells of a row
pub row_most : (n : ℕ) (d : List ℕ) (i j : ℕ) → Demands n d → i < n → j ≤ n → sum_to j (λ v. cell n d i v) ≤ j * 65535
row_most n d i j h hi le = sum_most j 65535 (λ v. cell n d i v) (λ v lt. cell_most n d i v h hi (omega arith))

-- the sum of a column that waits for its cell of row i
pub column_most : {n : ℕ} {d sums : List ℕ} {i j : ℕ} → Demands n d → i < n → j < n → SummedTo n d sums i j → get_or sums (n + j) 0 ≤ i * 65535
column_most {n = n} {d = d} {i = i} {j = j} h hi hj g =
    omega (arith, g.ahead j (omega arith) hj, sum_most i 65535 (λ u. cell n d u j) (λ u lt. cell_most n d u j h (omega arith) hj))

-- no column has a sum yet
pub summed_none : {n : ℕ} (d : List ℕ) {sums : List ℕ} → Unsummed n sums n → SummedTo n d sums 0 0
summed_none {n = n} d g = record {
  rows = λ u lt. absurd (omega arith);
  passed = λ v lt. absurd (omega arith);
  ahead = λ v le lt. g.columns v lt ∙ sym (sum_none (λ u. cell n d u v));
}

-- one cell more
pub summed_cell : {n : ℕ} {d sums : List ℕ} {i j : ℕ} (x : ℕ) → SummedTo n d sums i j → i < n → j < n → 2 * n ≤ length sums → x ≡ cell n d i j
    → SummedTo n d (set sums (n + j) (get_or sums (n + j) 0 + x)) i (j + 1)
summed_cell {n = n} {d = d} {sums = sums} {i = i} {j = j} x g hi hj room e =
    let y = get_or sums (n + j) 0 + x in
    record {
      rows = λ u lt. get_or-set_other sums (n + j) u y 0 (λ q. omega arith) ∙ g.rows u lt;
      passed = λ v lt.
          by_eq v j
          (λ q. rw q (get_or-set_same sums (n + j) y 0 (omega arith) ∙ omega (arith, e, g.ahead j (omega arith) hj, sum_more i (λ u. cell n d u j))))
          (λ ne. get_or-set_other sums (n + j) (n + v) y 0 (λ q. ne (omega arith)) ∙ g.passed v (omega arith));
      ahead = λ v le lt. get_or-set_other sums (n + j) (n + v) y 0 (λ q. omega arith) ∙ g.ahead v (omega arith) lt;
    }

-- all rows
pub summed_all : {n : ℕ} {d sums : List ℕ} {i : ℕ} → SummedTo n d sums i 0 → i ≡ n → Summed n d sums
summed_all {n = n} {d = d} {sums = sums} g e = record {
  lines = λ ℓ hl.
      by_lt ℓ n
      (λ lt. g.rows ℓ (omega arith))
      (λ le.
      let at : n + (ℓ - n) ≡ ℓ = omega arith in
      rw at at (sum_done (λ u. cell n d u (ℓ - n)) e (g.ahead (ℓ - n) (omega arith) (omega arith)) ∙ sym (column_sum n d (ℓ - n))));
}
