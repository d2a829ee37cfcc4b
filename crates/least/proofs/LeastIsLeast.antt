-- No conflict-free schedule refuses less than the least rule. The paper proof: let X be what a schedule refuses at each pair. On each line X has
-- at least the excess, since the schedule's slots fit the capacities. Charge exactly the excess of each row to cells of that row, and that of
-- each column to cells of that column, nowhere more than X. Let b be by how much the two charges of a cell exceed X. Then b is a withdrawn
-- matrix, so its total is at most A's, and all excesses minus the total of b are at most X's total. Assumes nothing.
use Prim.Native.Nat.{ℕ, zero, suc, ◌+◌, ◌-◌, ◌*◌, ◌≤◌, ◌<◌, min}
use native.Mathlib.Omega.{arith}
use mathlib.Core.Path.{◌≡◌, refl, sym, ◌∙◌}
use mathlib.Core.List.{List}
use Rattle.sums.specs.Sums.{sum_to}
use Rattle.sums.specs.Tables.{cell, square, tab}
use Rattle.sums.proofs.Sums.{sum_ext, sum_add, sum_mono, sum_swap}
use Rattle.sums.proofs.Cases.{by_lt}
use Rattle.sums.proofs.Tables.{square_cell}
use Rattle.star.specs.Lines.{line_sum, total, excess, Admissible}
use Rattle.star.specs.Schedules.{count, refused_by}
use Rattle.star.proofs.LineLaws.{row_sum, column_sum, excess_is, sum_lines}
use Rattle.flow.specs.Flows.{Feasible}
use Rattle.least.specs.Least.{Greatest, kept_from}
use Rattle.least.proofs.Withdrawals.{feasible_is_withdrawn, ceiling_at}
use Rattle.least.proofs.Keeping.{refused_total}

-- ---- charging a number to a range, from its start, nowhere more than there is
unfoldable charge : (x : ℕ → ℕ) (most t : ℕ) → ℕ
charge x most t = min (sum_to (suc t) x) most - min (sum_to t x) most

charge_below : (x : ℕ → ℕ) (most t : ℕ) → charge x most t ≤ x t
unfolding charge sum_to
charge_below x most t = omega arith

charge_sum : (n : ℕ) (x : ℕ → ℕ) (most : ℕ) → sum_to n (charge x most) ≡ min (sum_to n x) most
unfolding charge sum_to
charge_sum zero x most = omega arith
charge_sum (suc n) x most = omega (arith, charge_sum n x most)

charge_all : (n : ℕ) (x : ℕ → ℕ) (most : ℕ) → most ≤ sum_to n x → sum_to n (charge x most) ≡ most
charge_all n x most h = omega (arith, charge_sum n x most)

-- ---- what a schedule refuses, and what of it is charged twice
module _ (n l : ℕ) (cap d s : List ℕ) (fits : Admissible n cap (square n (count n l s))) where
  unfoldable refused : ℕ → ℕ → ℕ
  refused i j = cell n d i j - count n l s i j

  unfoldable by_row : ℕ → ℕ → ℕ
  by_row i j = charge (refused i) (excess n cap d i) j

  unfoldable by_column : ℕ → ℕ → ℕ
  by_column i j = charge (λ i. refused i j) (excess n cap d (n + j)) i

  unfoldable twice : ℕ → ℕ → ℕ
  twice i j = (by_row i j + by_column i j) - refused i j

  row_refused : (i : ℕ) → i < n → excess n cap d i ≤ sum_to n (refused i)
  unfolding refused
  row_refused i p = omega (
    arith,
    excess_is n cap d i,
    fits.lines i (omega arith),
    row_sum n d i p,
    row_sum n (square n (count n l s)) i p ∙ sum_ext n _ (count n l s i) (λ j q. square_cell n (count n l s) i j p q),
    sum_add n (λ j. cell n d i j - count n l s i j) (count n l s i),
    sum_mono n (λ j. cell n d i j) (λ j. (cell n d i j - count n l s i j) + count n l s i j) (λ j q. omega arith),
  )

  column_refused : (j : ℕ) → j < n → excess n cap d (n + j) ≤ sum_to n (λ i. refused i j)
  unfolding refused
  column_refused j q = omega (
    arith,
    excess_is n cap d (n + j),
    fits.lines (n + j) (omega arith),
    column_sum n d j,
    column_sum n (square n (count n l s)) j ∙ sum_ext n _ (λ i. count n l s i j) (λ i p. square_cell n (count n l s) i j p q),
    sum_add n (λ i. cell n d i j - count n l s i j) (λ i. count n l s i j),
    sum_mono n (λ i. cell n d i j) (λ i. (cell n d i j - count n l s i j) + count n l s i j) (λ i p. omega arith),
  )

  row_charged : (i : ℕ) → i < n → sum_to n (by_row i) ≡ excess n cap d i
  unfolding by_row
  row_charged i p = charge_all n (refused i) (excess n cap d i) (row_refused i p)

  column_charged : (j : ℕ) → j < n → sum_to n (λ i. by_column i j) ≡ excess n cap d (n + j)
  unfolding by_column
  column_charged j q = charge_all n (λ i. refused i j) (excess n cap d (n + j)) (column_refused j q)

  row_within : (i j : ℕ) → by_row i j ≤ refused i j
  unfolding by_row
  row_within i j = charge_below (refused i) (excess n cap d i) j

  column_within : (i j : ℕ) → by_column i j ≤ refused i j
  unfolding by_column
  column_within i j = charge_below (λ i. refused i j) (excess n cap d (n + j)) i

  twice_line : (ℓ : ℕ) → ℓ < 2 * n → line_sum n (square n twice) ℓ ≤ excess n cap d ℓ
  unfolding twice
  twice_line ℓ h =
      by_lt ℓ n
      (λ p. omega (
        arith,
        row_sum n (square n twice) ℓ p,
        sum_mono n (λ j. cell n (square n twice) ℓ j) (by_row ℓ) (λ j q. omega (arith, square_cell n twice ℓ j p q, column_within ℓ j)),
        row_charged ℓ p,
      ))
      (λ p.
      let j = ℓ - n in
      let q : j < n = omega arith in
      let at : n + j ≡ ℓ = omega arith in
      let column : line_sum n (square n twice) (n + j) ≤ excess n cap d (n + j)
      = omega (
        arith,
        column_sum n (square n twice) j,
        sum_mono n (λ i. cell n (square n twice) i j) (λ i. by_column i j) (λ i p. omega (arith, square_cell n twice i j p q, row_within i j)),
        column_charged j q,
      ) in
      rw at at column)

  twice_feasible : Feasible n d (tab (2 * n) (excess n cap d)) (square n twice)
  unfolding twice refused
  twice_feasible = record {
    below = λ i j p q. omega (arith, square_cell n twice i j p q, row_within i j, column_within i j);
    lines = λ ℓ h. rw (ceiling_at n cap d ℓ h) (twice_line ℓ h);
  }

  refused_all : refused_by n l d s ≡ sum_to n (λ i. sum_to n (refused i))
  unfolding refused_by refused
  refused_all = refl

  row_covered : (i : ℕ) → i < n → sum_to n (by_row i) + sum_to n (by_column i) ≤ sum_to n (refused i) + sum_to n (λ j. cell n (square n twice) i j)
  unfolding twice
  row_covered i p = omega (
    arith,
    sum_add n (by_row i) (by_column i),
    sum_add n (refused i) (λ j. cell n (square n twice) i j),
    sum_mono n (λ j. by_row i j + by_column i j) (λ j. refused i j + cell n (square n twice) i j) (λ j q. omega (arith, square_cell n twice i j p q)),
  )

  -- all excesses are charged
  excesses_within : sum_to (2 * n) (excess n cap d) ≤ refused_by n l d s + total n (square n twice)
  unfolding total
  excesses_within = omega (
    arith,
    sum_lines n (excess n cap d),
    sum_ext n (excess n cap d) (λ i. sum_to n (by_row i)) (λ i p. sym (row_charged i p)),
    sum_ext n (λ j. excess n cap d (n + j)) (λ j. sum_to n (λ i. by_column i j)) (λ j q. sym (column_charged j q)),
    sum_swap n n by_column,
    sum_add n (λ i. sum_to n (by_row i)) (λ i. sum_to n (by_column i)),
    sum_add n (λ i. sum_to n (refused i)) (λ i. sum_to n (λ j. cell n (square n twice) i j)),
    sum_mono n (λ i. sum_to n (by_row i) + sum_to n (by_column i)) (λ i. sum_to n (refused i) + sum_to n (λ j. cell n (square n twice) i j)) row_covered,
    refused_all,
  )

-- ---- the theorem
module _ {n : ℕ} {cap d a : List ℕ} (g : Greatest n cap d a) (l : ℕ) (s : List ℕ) where
  -- a schedule whose slots respect the capacities, also one that gives a pair more than it asked, refuses at least what the least rule refuses
  pub least_is_least : Admissible n cap (square n (count n l s)) → total n d ≤ total n (kept_from n cap d a) + refused_by n l d s
  least_is_least fits = omega (
    arith,
    refused_total g,
    excesses_within n l cap d s fits,
    g.most (square n (twice n l cap d s fits)) (feasible_is_withdrawn n cap d (twice_feasible n l cap d s fits)),
  )
