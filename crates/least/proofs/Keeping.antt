-- What is kept of E, where two lines too long meet only in a zero cell: on every line too long the shares of that line, whichever is looked at
-- first, so such a line keeps exactly its capacity; every other line keeps at most what it has. What is lost is what each line has above its
-- capacity. Assumes nothing.
use Prim.Native.Nat.{ℕ, ◌+◌, ◌-◌, ◌*◌, ◌≤◌, ◌<◌}
use native.Mathlib.Omega.{arith}
use mathlib.Core.Path.{◌≡◌, refl, sym, ◌∙◌, ap, ap₂}
use mathlib.Core.Bool.{true, false, cond}
use mathlib.Core.List.{List}
use lib.ListN.{length, get_or}
use Rattle.sums.specs.Sums.{sum_to, gate}
use Rattle.sums.specs.Tables.{cell, square}
use Rattle.sums.proofs.Sums.{sum_ext, sum_add, sum_swap}
use Rattle.sums.proofs.Gates.{sum_gate}
use Rattle.sums.proofs.Cases.{by_lt, by_test}
use Rattle.sums.proofs.Tables.{length_square, square_cell}
use Rattle.star.specs.Lines.{on_line, line_sum, total, excess, Admissible}
use Rattle.star.proofs.LineLaws.{on_row, on_column, in_column, line_mono, sum_lines, lines_twice}
use Rattle.least.specs.Least.{Greatest, left, longer, shared, kept_cell, kept_from}
use Rattle.least.specs.Promises.{MeetInZero}
use Rattle.least.proofs.Remains.{left_below, left_total, excess_parts, longer_is, shorter_is, two_longer_lines_meet_in_zero}
use Rattle.least.proofs.Shares.{shared_below, shared_sums_to_capacity}

-- ---- one cell
module _ (n : ℕ) (cap e : List ℕ) where
  pub row_shared_below : (i j : ℕ) → i < n → longer n cap e i ≡ true → shared n cap e i j ≤ cell n e i j
  row_shared_below i j p l = omega (arith, shared_below n cap e i (longer_is n cap e i l) j, on_row n e i j p)

  pub column_shared_below : (i j : ℕ) → longer n cap e (n + j) ≡ true → shared n cap e (n + j) i ≤ cell n e i j
  column_shared_below i j l = omega (arith, shared_below n cap e (n + j) (longer_is n cap e (n + j) l) i, in_column n e j i)

  pub kept_row : (i j : ℕ) → longer n cap e i ≡ true → kept_cell n cap e i j ≡ shared n cap e i j
  unfolding kept_cell
  kept_row i j l = rw l refl

  kept_column_only : (i j : ℕ) → longer n cap e i ≡ false → longer n cap e (n + j) ≡ true → kept_cell n cap e i j ≡ shared n cap e (n + j) i
  unfolding kept_cell
  kept_column_only i j l m = rw (l, m) refl

  pub kept_other : (i j : ℕ) → longer n cap e i ≡ false → longer n cap e (n + j) ≡ false → kept_cell n cap e i j ≡ cell n e i j
  unfolding kept_cell
  kept_other i j l m = rw (l, m) refl

  -- no cell keeps more than E has there
  pub kept_cell_below : (i j : ℕ) → i < n → kept_cell n cap e i j ≤ cell n e i j
  kept_cell_below i j p =
      by_test (longer n cap e i)
      (λ l. omega (arith, kept_row i j l, row_shared_below i j p l))
      (λ l. by_test (longer n cap e (n + j))
      (λ m. omega (arith, kept_column_only i j l m, column_shared_below i j m))
      (λ m. omega (arith, kept_other i j l m)))

  -- what a cell loses to its row, and to its column
  abbrev to_row : ℕ → ℕ → ℕ
  to_row i j = gate (longer n cap e i) (cell n e i j - shared n cap e i j)

  abbrev to_column : ℕ → ℕ → ℕ
  to_column i j = gate (longer n cap e (n + j)) (cell n e i j - shared n cap e (n + j) i)

  module _ (apart : MeetInZero n cap e) where
    pub kept_column : (i j : ℕ) → i < n → j < n → longer n cap e (n + j) ≡ true → kept_cell n cap e i j ≡ shared n cap e (n + j) i
    kept_column i j p q m =
        by_test (longer n cap e i)
        (λ l. omega (arith, kept_cell_below i j p, column_shared_below i j m, apart.zero i j p q l m))
        (λ l. kept_column_only i j l m)

    -- the order of lines is immaterial: the column may be looked at first
    pub column_first : (i j : ℕ) → i < n → j < n → kept_cell n cap e i j ≡ cond (longer n cap e (n + j)) (shared n cap e (n + j) i) (cond (longer n cap e i) (shared n cap e i j) (cell n e i j))
    column_first i j p q =
        by_test (longer n cap e (n + j))
        (λ m. rw m (kept_column i j p q m))
        (λ m. by_test (longer n cap e i)
        (λ l. rw (m, l) (kept_row i j l))
        (λ l. rw (m, l) (kept_other i j l m)))

    -- ---- one line
    pub kept_on_line : (ℓ t : ℕ) → ℓ < 2 * n → t < n → longer n cap e ℓ ≡ true → on_line n (square n (kept_cell n cap e)) ℓ t ≡ shared n cap e ℓ t
    kept_on_line ℓ t h p l =
        by_lt ℓ n
        (λ row. on_row n _ ℓ t row ∙ square_cell n (kept_cell n cap e) ℓ t row p ∙ kept_row ℓ t l)
        (λ column.
        let at : n + (ℓ - n) ≡ ℓ = omega arith in
        on_column n _ ℓ t column ∙ square_cell n (kept_cell n cap e) t (ℓ - n) p (omega arith)
        ∙ kept_column t (ℓ - n) p (omega arith) (ap (longer n cap e) at ∙ l) ∙ ap (λ x. shared n cap e x t) at)

    -- a line too long keeps exactly its capacity
    pub longer_line_kept : (ℓ : ℕ) → ℓ < 2 * n → longer n cap e ℓ ≡ true → line_sum n (square n (kept_cell n cap e)) ℓ ≡ get_or cap ℓ 0
    unfolding line_sum
    longer_line_kept ℓ h l = sum_ext n _ _ (λ t p. kept_on_line ℓ t h p l) ∙ shared_sums_to_capacity n cap e ℓ (longer_is n cap e ℓ l)

    pub kept_is_admissible : Admissible n cap (square n (kept_cell n cap e))
    kept_is_admissible = record {
      lines = λ ℓ h.
          by_test (longer n cap e ℓ)
          (λ l. omega (arith, longer_line_kept ℓ h l))
          (λ l. omega (
            arith,
            shorter_is n cap e ℓ l,
            line_mono n (square n (kept_cell n cap e)) e (λ i j p q. rw (square_cell n (kept_cell n cap e) i j p q) (kept_cell_below i j p)) ℓ h,
          ));
    }

    -- ---- all cells
    lost : (i j : ℕ) → i < n → j < n → cell n e i j ≡ kept_cell n cap e i j + (to_row i j + to_column i j)
    lost i j p q =
        by_test (longer n cap e i)
        (λ l. by_test (longer n cap e (n + j))
        (λ m. rw (l, m) (omega (arith, apart.zero i j p q l m, kept_cell_below i j p)))
        (λ m. rw (l, m) (omega (arith, kept_row i j l, row_shared_below i j p l))))
        (λ l. by_test (longer n cap e (n + j))
        (λ m. rw (l, m) (omega (arith, kept_column_only i j l m, column_shared_below i j m)))
        (λ m. rw (l, m) (omega (arith, kept_other i j l m))))

    -- what a line loses is what it has above its capacity
    lost_on_line : (ℓ : ℕ) → gate (longer n cap e ℓ) (sum_to n (λ t. on_line n e ℓ t - shared n cap e ℓ t)) ≡ line_sum n e ℓ - get_or cap ℓ 0
    unfolding line_sum
    lost_on_line ℓ =
        by_test (longer n cap e ℓ)
        (λ l. rw l (omega (
          arith,
          shared_sums_to_capacity n cap e ℓ (longer_is n cap e ℓ l),
          sum_add n (λ t. on_line n e ℓ t - shared n cap e ℓ t) (shared n cap e ℓ),
          sum_ext n (λ t. (on_line n e ℓ t - shared n cap e ℓ t) + shared n cap e ℓ t) (on_line n e ℓ) (λ t p. omega (arith, shared_below n cap e ℓ (longer_is n cap e ℓ l) t)),
        )))
        (λ l. rw l (omega (arith, shorter_is n cap e ℓ l)))

    pub kept_and_lost : total n e ≡ total n (square n (kept_cell n cap e)) + sum_to (2 * n) (λ ℓ. line_sum n e ℓ - get_or cap ℓ 0)
    unfolding total
    kept_and_lost =
        sum_ext n _ _ (λ i p. sum_ext n _ _ (λ j q. lost i j p q ∙ ap (λ x. x + (to_row i j + to_column i j)) (sym (square_cell n (kept_cell n cap e) i j p q))))
        ∙ sum_ext n _ _ (λ i p. sum_add n _ _ ∙ ap (λ x. sum_to n (λ j. cell n (square n (kept_cell n cap e)) i j) + x) (sum_add n (to_row i) (to_column i)))
        ∙ sum_add n _ _
        ∙ ap (λ x. total n (square n (kept_cell n cap e)) + x)
        (sum_add n (λ i. sum_to n (to_row i)) (λ i. sum_to n (to_column i))
        ∙ ap₂ ◌+◌
        (sum_ext n _ _ (λ i p. row_lost i p))
        (sum_swap n n to_column ∙ sum_ext n _ _ (λ j q. column_lost j))
        ∙ sym (sum_lines n (λ ℓ. line_sum n e ℓ - get_or cap ℓ 0)))
      where
        row_lost : (i : ℕ) → i < n → sum_to n (to_row i) ≡ line_sum n e i - get_or cap i 0
        row_lost i p =
            sum_gate n (longer n cap e i) (λ j. cell n e i j - shared n cap e i j)
            ∙ ap (gate (longer n cap e i)) (sum_ext n _ _ (λ j q. ap (λ x. x - shared n cap e i j) (sym (on_row n e i j p))))
            ∙ lost_on_line i

        column_lost : (j : ℕ) → sum_to n (λ i. to_column i j) ≡ line_sum n e (n + j) - get_or cap (n + j) 0
        column_lost j =
            sum_gate n (longer n cap e (n + j)) (λ i. cell n e i j - shared n cap e (n + j) i)
            ∙ ap (gate (longer n cap e (n + j))) (sum_ext n _ _ (λ i p. ap (λ x. x - shared n cap e (n + j) i) (sym (in_column n e j i))))
            ∙ lost_on_line (n + j)

-- ---- given D and a greatest A
pub length_kept : (n : ℕ) (cap d a : List ℕ) → length (kept_from n cap d a) ≡ n * n
unfolding kept_from
length_kept n cap d a = length_square n (kept_cell n cap (left n d a))

pub kept_below : (n : ℕ) (cap d a : List ℕ) (i j : ℕ) → i < n → j < n → cell n (kept_from n cap d a) i j ≤ cell n d i j
unfolding kept_from
kept_below n cap d a i j p q = omega (arith, square_cell n (kept_cell n cap (left n d a)) i j p q, kept_cell_below n cap (left n d a) i j p, left_below n d a i j p q)

module _ {n : ℕ} {cap d a : List ℕ} (g : Greatest n cap d a) where
  pub kept_admissible : Admissible n cap (kept_from n cap d a)
  unfolding kept_from
  kept_admissible = kept_is_admissible n cap (left n d a) (two_longer_lines_meet_in_zero g)

  -- the refused total is all excesses minus the total of A
  pub refused_total : total n d + total n a ≡ total n (kept_from n cap d a) + sum_to (2 * n) (excess n cap d)
  unfolding kept_from
  refused_total = omega (
    arith,
    left_total g.withdrawn,
    kept_and_lost n cap (left n d a) (two_longer_lines_meet_in_zero g),
    lines_twice n a,
    sum_add (2 * n) (line_sum n a) (λ ℓ. line_sum n (left n d a) ℓ - get_or cap ℓ 0),
    sum_ext (2 * n) (excess n cap d) (λ ℓ. line_sum n a ℓ + (line_sum n (left n d a) ℓ - get_or cap ℓ 0)) (λ ℓ h. excess_parts g.withdrawn ℓ h),
  )
