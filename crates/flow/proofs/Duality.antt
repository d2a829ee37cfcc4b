-- No feasible matrix exceeds a cut, and closed marks give a cut of the matrix's own total: a total falls into the rows without a mark, the
-- cells where marked lines meet and the cells where a marked row meets a column without a mark, and each part has its bound. Assumes nothing.
use Prim.Native.Nat.{ℕ, ◌+◌, ◌≤◌}
use native.Mathlib.Nat.{add-le-add, le_trans}
use native.Mathlib.Omega.{arith}
use mathlib.Core.Path.{◌≡◌, sym, ◌∙◌, ap, ap₂}
use mathlib.Core.Bool.{Bool, true, false, not}
use mathlib.Core.List.{List}
use borrow.Author.Tests.{not-true}
use Rattle.sums.specs.Sums.{sum_to, gate}
use Rattle.sums.specs.Tables.{cell}
use Rattle.sums.proofs.Sums.{sum_ext, sum_mono, sum_add, sum_swap}
use Rattle.sums.proofs.Gates.{sum_gate, gate_split, gate_mono, gate_le, gate_cong, gate_drop, gate_zero}
use Rattle.star.specs.Lines.{total}
use Rattle.star.proofs.LineLaws.{row_sum, column_sum}
use Rattle.flow.specs.Flows.{Feasible, Largest, Closed, marked, cut}

-- the three parts of a matrix's total, for a set of rows and a set of columns
module _ (n : ℕ) (a : ℕ → ℕ → ℕ) (r c : ℕ → Bool) where
  outside : ℕ
  outside = sum_to n (λ i. gate (not (r i)) (sum_to n (λ j. a i j)))

  within : ℕ
  within = sum_to n (λ j. sum_to n (λ i. gate (r i) (gate (c j) (a i j))))

  across : ℕ
  across = sum_to n (λ i. sum_to n (λ j. gate (r i) (gate (not (c j)) (a i j))))

  three : (b : Bool) (x y z : ℕ) → x ≡ y + z → x ≡ gate (not b) x + (gate b y + gate b z)
  three true x y z h = omega arith
  three false x y z h = omega arith

  parts : sum_to n (λ i. sum_to n (λ j. a i j)) ≡ outside + (within + across)
  unfolding outside within across
  parts =
      sum_ext n _ _ (λ i p.
      sum_ext n _ _ (λ j q. three (r i) (a i j) (gate (c j) (a i j)) (gate (not (c j)) (a i j)) (gate_split (c j) (a i j)))
      ∙ sum_add n _ _ ∙ ap₂ ◌+◌ (sum_gate n (not (r i)) (λ j. a i j)) (sum_add n _ _))
      ∙ sum_add n _ _ ∙ ap (λ x. outside + x) (sum_add n _ _ ∙ ap (λ x. x + across) (sum_swap n n (λ i j. gate (r i) (gate (c j) (a i j)))))

module _ (n : ℕ) (bound ceiling a marks : List ℕ) where
  -- no feasible matrix exceeds the cut of any marks
  pub within_cut : Feasible n bound ceiling a → total n a ≤ cut n bound ceiling marks
  unfolding outside within across total cut
  within_cut f = rw (parts n (cell n a) (marked marks) (λ j. marked marks (n + j))) (add-le-add
      (sum_mono n _ _ (λ i p. gate_mono (not (marked marks i)) _ _ (rw (row_sum n a i p) at (f.lines i (omega arith)))))
      (add-le-add
      (sum_mono n _ _ (λ j q.
      le_trans
      (sum_mono n _ _ (λ i p. gate_le (marked marks i) _))
      (rw (sum_gate n (marked marks (n + j)) (λ i. cell n a i j)) (gate_mono (marked marks (n + j)) _ _ (rw (column_sum n a j) at (f.lines (n + j) (omega arith)))))))
      (sum_mono n _ _ (λ i p. sum_mono n _ _ (λ j q. gate_mono (marked marks i) _ _ (gate_mono (not (marked marks (n + j))) _ _ (f.below i j p q)))))))

  -- what a finished search leaves meets the cut of its marks
  pub closed_meets_cut : Closed n bound ceiling a marks → total n a ≡ cut n bound ceiling marks
  unfolding outside within across total cut
  closed_meets_cut f = parts n (cell n a) (marked marks) (λ j. marked marks (n + j)) ∙ ap₂ ◌+◌
      (sum_ext n _ _ (λ i p. gate_cong (not (marked marks i)) _ _ (λ t. sym (row_sum n a i p) ∙ f.rows i p (not-true _ t))))
      (ap₂ ◌+◌
      (sum_ext n _ _ (λ j q.
      sum_ext n _ _ (λ i p. gate_drop (marked marks i) (gate (marked marks (n + j)) (cell n a i j)) (λ t. gate_zero (marked marks (n + j)) (cell n a i j) (λ u. f.empty i j p q t u)))
      ∙ sum_gate n (marked marks (n + j)) (λ i. cell n a i j) ∙ gate_cong (marked marks (n + j)) _ _ (λ t. sym (column_sum n a j) ∙ f.columns j q t)))
      (sum_ext n _ _ (λ i p. sum_ext n _ _ (λ j q. gate_cong (marked marks i) _ _ (λ t. gate_cong (not (marked marks (n + j))) _ _ (λ u. f.full i j p q t (not-true _ u)))))))

-- so its total is the greatest
pub closed_is_largest : (n : ℕ) (bound ceiling a marks : List ℕ) → Feasible n bound ceiling a → Closed n bound ceiling a marks → Largest n bound ceiling a
closed_is_largest n bound ceiling a marks f k = record { feasible = f; most = λ b g. rw (closed_meets_cut n bound ceiling a marks k) (within_cut n bound ceiling b marks g) }
