-- Where A is the only greatest withdrawn matrix, by a bound for each cell that computes. A cell is at most D and at most the excess of its row and of
-- its column; and the total and that cell once more are at most both excesses and the most of the cells off both lines, as its row and its
-- column count it twice. Where no bound is above A, a greatest matrix is nowhere above A and has A's total: it is A. Assumes nothing.
use Prim.Native.Nat.{ℕ, ◌+◌, ◌-◌, ◌≤◌, ◌<◌, min}
use native.Mathlib.Omega.{arith}
use mathlib.Core.Path.{◌≡◌, refl, ◌∙◌, ap}
use mathlib.Core.Bool.{Bool, true, false, not}
use mathlib.Core.List.{List}
use lib.Dec.{leb, eqb}
use borrow.Author.Tests.{leb-true, eq-eqb, ne_eqb}
use Rattle.sums.specs.Sums.{sum_to, gate}
use Rattle.sums.specs.Tables.{cell}
use Rattle.sums.proofs.Sums.{sum_ext, sum_add, sum_mono, sum_update}
use Rattle.sums.proofs.Gates.{gate_mono}
use Rattle.sums.proofs.Searches.{all_below, all_at}
use Rattle.star.specs.Lines.{total, excess, whole_frame}
use Rattle.star.proofs.LineLaws.{row_sum, column_sum, cell_in_row, cell_in_column}
use Rattle.least.specs.Least.{Withdrawn, Greatest}
use Rattle.planner.proofs.NeededLaws.{kept_ext}
use Rattle.worked.specs.Worked.{LeastLine, OnlyLeastLine}

-- ---- sums
-- a sum without its term at a
abbrev without : (n a : ℕ) (f : ℕ → ℕ) → ℕ
without n a f = sum_to n (λ k. gate (not (eqb k a)) (f k))

module _ (n a : ℕ) where
  one_apart : (f : ℕ → ℕ) → a < n → sum_to n f ≡ f a + without n a f
  one_apart f h =
      let gone : gate (not (eqb a a)) (f a) ≡ 0 = ap (λ b. gate (not b) (f a)) (eq-eqb a a refl) in
      omega (arith, gone, sum_update n f (λ k. gate (not (eqb k a)) (f k)) a h (λ k p ne. ap (λ b. gate (not b) (f k)) (ne_eqb k a ne)))

  module _ (f g : ℕ → ℕ) where
    without_mono : ((k : ℕ) → k < n → f k ≤ g k) → without n a f ≤ without n a g
    without_mono below = sum_mono n _ _ (λ k h. gate_mono (not (eqb k a)) (f k) (g k) (below k h))

    without_add : without n a (λ k. f k + g k) ≡ without n a f + without n a g
    without_add = sum_ext n _ _ (λ k h. gate_add (not (eqb k a)) (f k) (g k)) ∙ sum_add n _ _
      where
        gate_add : (b : Bool) (x y : ℕ) → gate b (x + y) ≡ gate b x + gate b y
        gate_add true x y = refl
        gate_add false x y = refl

-- terms that are nowhere above others, and whose sum is not below theirs, are equal to them
sum_same : (n : ℕ) (f g : ℕ → ℕ) → ((k : ℕ) → k < n → f k ≤ g k) → sum_to n g ≤ sum_to n f → (k : ℕ) → k < n → f k ≡ g k
sum_same n f g below e k h = omega (arith, below k h, one_apart n k f h, one_apart n k g h, without_mono n k f g below)

-- matrices of which one is nowhere above the other, and whose total is not below the other's, have the same cells
same_cells : (n : ℕ) (a b : List ℕ) → ((i j : ℕ) → i < n → j < n → cell n b i j ≤ cell n a i j) → total n a ≤ total n b →
    (i j : ℕ) → i < n → j < n → cell n b i j ≡ cell n a i j
unfolding total
same_cells n a b below e i j p q =
    let row = sum_same n (λ u. sum_to n (λ v. cell n b u v)) (λ u. sum_to n (λ v. cell n a u v)) (λ u h. sum_mono n _ _ (λ v. below u v h)) e i p in
    sum_same n (λ v. cell n b i v) (λ v. cell n a i v) (λ v. below i v p) (omega (arith, row)) j q

-- ---- the bound of a cell
module _ (n : ℕ) (cap d : List ℕ) where
  -- D at a pair, or the excess of its row or its column where that is less
  unfoldable pub at_most : (i j : ℕ) → ℕ
  at_most i j = min (cell n d i j) (min (excess n cap d i) (excess n cap d (n + j)))

  -- the most of the cells off row i and off column j
  unfoldable pub off_both : (i j : ℕ) → ℕ
  off_both i j = without n i (λ u. without n j (at_most u))

  -- the bound of a cell in a withdrawn matrix with a total of at least `most`
  unfoldable pub bound : (most i j : ℕ) → ℕ
  bound most i j = min (at_most i j) (excess n cap d i + excess n cap d (n + j) + off_both i j - most)

  module _ (b : List ℕ) (w : Withdrawn n cap d b) where
    cell_at_most : (i j : ℕ) → i < n → j < n → cell n b i j ≤ at_most i j
    unfolding at_most
    cell_at_most i j p q =
        omega (arith, w.below i j p q, cell_in_row n b i j p q, w.lines i (omega arith), cell_in_column n b i j p, w.lines (n + j) (omega arith))

    -- a row is at most its cell in column j and the most of its other cells
    row_apart : (j u : ℕ) → j < n → u < n → sum_to n (λ v. cell n b u v) ≤ cell n b u j + without n j (at_most u)
    row_apart j u q p = omega (arith, one_apart n j (λ v. cell n b u v) q, without_mono n j (λ v. cell n b u v) (at_most u) (λ v. cell_at_most u v p))

    -- row i whole, and every other row as above: its cells in column j are that column but for cell (i,j)
    counted_twice : (i j : ℕ) → i < n → j < n → total n b + cell n b i j ≤ excess n cap d i + excess n cap d (n + j) + off_both i j
    unfolding total off_both
    counted_twice i j p q =
        let rows = one_apart n i (λ u. sum_to n (λ v. cell n b u v)) p in
        let others = without_mono n i (λ u. sum_to n (λ v. cell n b u v)) (λ u. cell n b u j + without n j (at_most u)) (λ u. row_apart j u q) in
        let parts = without_add n i (λ u. cell n b u j) (λ u. without n j (at_most u)) in
        let column = one_apart n i (λ u. cell n b u j) p in
        omega (arith, rows, others, parts, column, row_sum n b i p, column_sum n b j, w.lines i (omega arith), w.lines (n + j) (omega arith))

    bounded : (most : ℕ) → most ≤ total n b → (i j : ℕ) → i < n → j < n → cell n b i j ≤ bound most i j
    unfolding bound
    bounded most e i j p q = omega (arith, cell_at_most i j p q, counted_twice i j p q)

  -- no bound is above A, as a test: of one row, and of all
  unfoldable pub rowOnly? : (a : List ℕ) (i : ℕ) → Bool
  rowOnly? a i = all_below n (λ j. leb (bound (total n a) i j) (cell n a i j))

  unfoldable pub only? : List ℕ → Bool
  only? a = all_below n (rowOnly? a)

  bound_below : (a : List ℕ) → only? a ≡ true → (i j : ℕ) → i < n → j < n → bound (total n a) i j ≤ cell n a i j
  unfolding only? rowOnly?
  bound_below a e i j p q =
      leb-true (bound (total n a) i j) (cell n a i j) (all_at n (λ j. leb (bound (total n a) i j) (cell n a i j)) (all_at n (rowOnly? a) e i p) j q)

  pub only_greatest : (a b : List ℕ) → only? a ≡ true → Greatest n cap d a → Greatest n cap d b →
      (i j : ℕ) → i < n → j < n → cell n b i j ≡ cell n a i j
  only_greatest a b e g h =
      let most = h.most a g.withdrawn in
      same_cells n a b (λ i j p q. omega (arith, bounded b h.withdrawn (total n a) most i j p q, bound_below a e i j p q)) most

-- ---- a line
pub only_line : {n l : ℕ} {d a kept : List ℕ} {refused : ℕ} → LeastLine n l d a kept refused → only? n (whole_frame n l) d a ≡ true →
    OnlyLeastLine n l d a kept refused
only_line {n = n} {l = l} {d = d} {a = a} line e = record {
  line = line;
  only = λ b h. only_greatest n (whole_frame n l) d a b e line.withdraws h;
  plans = λ k plan.
      let (greatest, keeps) = plan.least refl in
      keeps ∙ kept_ext n (whole_frame n l) d d (λ i j p q. refl) k.withdrawn a (only_greatest n (whole_frame n l) d a k.withdrawn e line.withdraws greatest) ∙ line.keeps;
}
