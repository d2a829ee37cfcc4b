-- A withdrawn matrix is one that stays below D at each cell and below the excess on each line: a line that does not overflow has excess 0, so
-- there every cell is 0 by itself. Hence the greatest withdrawn matrices are the largest of these. Assumes nothing.
use Prim.Native.Nat.{ℕ, ◌+◌, ◌-◌, ◌*◌, ◌≤◌, ◌<◌}
use native.Mathlib.Omega.{arith}
use mathlib.Core.Path.{◌≡◌, refl, sym, ◌∙◌}
use mathlib.Core.Bool.{Bool, true, false, ◌&&◌}
use mathlib.Core.List.{List}
use lib.ListN.{length, get_or, take, set}
use borrow.Author.Tests.{ltb-false}
use Rattle.sums.specs.Tables.{cell, tab}
use Rattle.sums.proofs.Tables.{tab_at}
use Rattle.sums.proofs.Fills.{Filled, filled_next, filled_more}
use Rattle.star.specs.Lines.{line_sum, overflows, excess, critical}
use Rattle.star.specs.LineSums.{Summed}
use Rattle.star.proofs.LineLaws.{excess_is, overflows_is, cell_in_row, cell_in_column}
use Rattle.flow.specs.Flows.{Feasible, Largest}
use Rattle.flow.proofs.Duality.{closed_is_largest}
use Rattle.flow.specs.Certified.{Certified}
use Rattle.least.specs.Least.{Withdrawn, Greatest}
use Rattle.least.specs.Promises.{Withdrew}

module _ (n : ℕ) (cap d : List ℕ) where
  -- the ceilings: each line's excess
  pub ceiling_at : (ℓ : ℕ) → ℓ < 2 * n → get_or (tab (2 * n) (excess n cap d)) ℓ 0 ≡ excess n cap d ℓ
  ceiling_at ℓ h = tab_at (excess n cap d) (2 * n) ℓ 0 h

  pub no_overflow_no_excess : (ℓ : ℕ) → overflows n cap d ℓ ≡ false → excess n cap d ℓ ≡ 0
  no_overflow_no_excess ℓ e = omega (arith, excess_is n cap d ℓ, ltb-false (get_or cap ℓ 0) (line_sum n d ℓ) (sym (overflows_is n cap d ℓ) ∙ e))

  off_critical : (i j : ℕ) → critical n cap d i j ≡ false → (x : ℕ) → x ≤ excess n cap d i → x ≤ excess n cap d (n + j) → x ≡ 0
  unfolding critical
  off_critical i j off x row column = go (overflows n cap d i) refl off
    where
      go : (b : Bool) → overflows n cap d i ≡ b → (b && overflows n cap d (n + j)) ≡ false → x ≡ 0
      go true e f = omega (arith, no_overflow_no_excess (n + j) f)
      go false e f = omega (arith, no_overflow_no_excess i e)

  module _ {a : List ℕ} where
    pub withdrawn_is_feasible : Withdrawn n cap d a → Feasible n d (tab (2 * n) (excess n cap d)) a
    withdrawn_is_feasible w = record { below = w.below; lines = λ ℓ h. rw (ceiling_at ℓ h) (w.lines ℓ h) }

    pub feasible_is_withdrawn : Feasible n d (tab (2 * n) (excess n cap d)) a → Withdrawn n cap d a
    feasible_is_withdrawn f = record {
      off = λ i j p q e.
          off_critical i j e (cell n a i j)
          (omega (arith, cell_in_row n a i j p q, rw (ceiling_at i (omega arith)) at (f.lines i (omega arith))))
          (omega (arith, cell_in_column n a i j p, rw (ceiling_at (n + j) (omega arith)) at (f.lines (n + j) (omega arith))));
      below = f.below;
      lines = λ ℓ h. rw (ceiling_at ℓ h) at (f.lines ℓ h);
    }

  module _ {a : List ℕ} where
    pub largest_is_greatest : Largest n d (tab (2 * n) (excess n cap d)) a → Greatest n cap d a
    largest_is_greatest g = record { withdrawn = feasible_is_withdrawn g.feasible; most = λ b w. g.most b (withdrawn_is_feasible w) }

-- ---- the excess of each line in place of its sum, one line after the other
module _ (n : ℕ) (cap d : List ℕ) {m : ℕ} {sums t : List ℕ} (f : Filled m (excess n cap d) sums t) where
  -- the line that comes next still has its sum
  sum_next : Summed n d sums → 2 * n ≤ length sums → m < 2 * n → get_or t m 0 ≡ line_sum n d m
  sum_next s room h = filled_next f (omega arith) ∙ s.lines m h

  pub excess_next : Summed n d sums → 2 * n ≤ length sums → m < 2 * n → Filled (m + 1) (excess n cap d) sums (set t m (get_or t m 0 - get_or cap m 0))
  excess_next s room h = filled_more _ f (omega arith) (omega (arith, sum_next s room h, excess_is n cap d m))

-- ---- the ceilings as a table begins with them
module _ (n : ℕ) (cap d ceilings : List ℕ) (e : take (2 * n) ceilings ≡ tab (2 * n) (excess n cap d)) where
  -- the largest matrix below D and the excesses
  pub certified_is_withdrawn : {a marks a' marks' : List ℕ} → Certified n d (take (2 * n) ceilings) a marks a' marks' → Withdrew n cap d a marks a' marks'
  certified_is_withdrawn {a' = a'} {marks' = marks'} c =
      let feasible = rw e at c.feasible in
      let closed = rw e at c.closed in
      record {
        greatest = largest_is_greatest n cap d (closed_is_largest n d (tab (2 * n) (excess n cap d)) a' marks' feasible closed);
        closed = closed;
        rest = c.rest;
        rest_marks = c.rest_marks;
      }
