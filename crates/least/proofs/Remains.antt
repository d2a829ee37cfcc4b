-- E, which is D minus a withdrawn A: its cells and sums; what A takes from a line and what E has above the capacity are together the excess;
-- two lines still too long in E meet only in a zero cell, since A could grow by 1 where they meet. Assumes nothing.
use Prim.Native.Nat.{ℕ, ◌+◌, ◌-◌, ◌*◌, ◌/◌, ◌%◌, ◌≤◌, ◌<◌}
use native.Mathlib.Omega.{arith}
use mathlib.Core.Path.{◌≡◌, refl, sym, ◌∙◌, ap, ap₂}
use mathlib.Core.Bool.{true, false}
use mathlib.Core.List.{List, ◌++◌, append-nil}
use lib.ListN.{get_or, length, drop, drop_of_length-le}
use borrow.Author.Tests.{ltb-true, ltb-false}
use Rattle.sums.specs.Sums.{sum_to, hit}
use Rattle.sums.specs.Tables.{cell, square, tab}
use Rattle.sums.proofs.Sums.{sum_ext, sum_add, sum_scale, sum_hit, hit_same, hit_other}
use Rattle.sums.proofs.Tables.{length_square, square_cell, tab_ext, place_split}
use Rattle.sums.proofs.Cases.{by_eq, by_lt}
use Rattle.star.specs.Lines.{on_line, source_on, destination_on, line_sum, total, excess}
use Rattle.star.proofs.LineLaws.{source_lt, destination_lt, row_sum, column_sum, total_rows, excess_is}
use Rattle.flow.specs.Flows.{Feasible}
use Rattle.least.specs.Least.{Withdrawn, Greatest, left, longer}
use Rattle.least.specs.Promises.{MeetInZero}
use Rattle.least.proofs.Withdrawals.{feasible_is_withdrawn, ceiling_at}

-- ---- E, for a withdrawn A
module _ (n : ℕ) (d a : List ℕ) where
  pub length_left : length (left n d a) ≡ n * n
  unfolding left
  length_left = length_square n _

  pub left_cell : (i j : ℕ) → i < n → j < n → cell n (left n d a) i j ≡ cell n d i j - cell n a i j
  unfolding left
  left_cell i j p q = square_cell n _ i j p q

  pub left_below : (i j : ℕ) → i < n → j < n → cell n (left n d a) i j ≤ cell n d i j
  left_below i j p q = omega (arith, left_cell i j p q)

-- the same cell by cell in row order
pub left_flat : (n : ℕ) (d a : List ℕ) → tab (n * n) (λ p. get_or d p 0 - get_or a p 0) ≡ left n d a
unfolding left square cell
left_flat n d a = tab_ext (n * n) _ _ (λ p h.
    let at = (place_split n p h).1.1 in
    ap₂ ◌-◌ (ap (λ x. get_or d x 0) (sym at)) (ap (λ x. get_or a x 0) (sym at)))

-- E written over a table of as many cells
pub left_written : (n : ℕ) (d a o : List ℕ) (p : ℕ) → p ≡ n * n → length o ≡ n * n → tab p (λ q. get_or d q 0 - get_or a q 0) ++ drop p o ≡ left n d a
left_written n d a o p e h = rw (e, drop_of_length-le o {i = n * n} (omega arith), append-nil) (left_flat n d a)

module _ {n : ℕ} {cap d a : List ℕ} (w : Withdrawn n cap d a) where
  -- A is nowhere above D, in row order
  pub withdrawn_below : (p : ℕ) → p < n * n → get_or a p 0 ≤ get_or d p 0
  unfolding cell
  withdrawn_below p h =
      let at = place_split n p h in
      rw at.1.1 at (w.below (p / n) (p % n) at.0 at.1.0)

  pub left_line : (ℓ : ℕ) → ℓ < 2 * n → line_sum n (left n d a) ℓ + line_sum n a ℓ ≡ line_sum n d ℓ
  unfolding line_sum on_line
  left_line ℓ h = sym (sum_add n _ _) ∙ sum_ext n _ _ (λ t p.
      let i = source_on n ℓ t in
      let j = destination_on n ℓ t in
      let hi = source_lt n ℓ t h p in
      let hj = destination_lt n ℓ t h p in
      omega (arith, left_cell n d a i j hi hj, w.below i j hi hj))

  pub left_total : total n (left n d a) + total n a ≡ total n d
  left_total = ap₂ ◌+◌ (total_rows n (left n d a)) (total_rows n a) ∙ sym (sum_add n _ _) ∙ sum_ext n _ _ (λ i p. left_line i (omega arith)) ∙ sym (total_rows n d)

  -- what A takes from a line, and what E has above its capacity
  pub excess_parts : (ℓ : ℕ) → ℓ < 2 * n → excess n cap d ℓ ≡ line_sum n a ℓ + (line_sum n (left n d a) ℓ - get_or cap ℓ 0)
  excess_parts ℓ h = omega (arith, excess_is n cap d ℓ, left_line ℓ h, w.lines ℓ h)

-- ---- lines too long
pub longer_is : (n : ℕ) (cap e : List ℕ) (ℓ : ℕ) → longer n cap e ℓ ≡ true → get_or cap ℓ 0 < line_sum n e ℓ
unfolding longer
longer_is n cap e ℓ h = ltb-true _ _ h

pub shorter_is : (n : ℕ) (cap e : List ℕ) (ℓ : ℕ) → longer n cap e ℓ ≡ false → line_sum n e ℓ ≤ get_or cap ℓ 0
unfolding longer
shorter_is n cap e ℓ h = ltb-false _ _ h

-- A with one slot more at the pair (x, y)
module _ (n : ℕ) (a : List ℕ) (x y : ℕ) (hx : x < n) (hy : y < n) where
  unfoldable grown : List ℕ
  grown = square n (λ i j. cell n a i j + hit x i * hit y j)

  grown_cell : (i j : ℕ) → i < n → j < n → cell n grown i j ≡ cell n a i j + hit x i * hit y j
  unfolding grown
  grown_cell i j p q = square_cell n _ i j p q

  grown_row : (i : ℕ) → i < n → line_sum n grown i ≡ line_sum n a i + hit x i
  grown_row i p =
      let one : hit x i * sum_to n (λ j. hit y j) ≡ hit x i = rw (sum_hit n y hy) (omega arith) in
      row_sum n grown i p ∙ sum_ext n _ _ (λ j q. grown_cell i j p q) ∙ sum_add n _ _
      ∙ ap₂ ◌+◌ (sym (row_sum n a i p)) (sum_scale n (hit x i) (λ j. hit y j) ∙ one)

  grown_column : (j : ℕ) → j < n → line_sum n grown (n + j) ≡ line_sum n a (n + j) + hit y j
  grown_column j q =
      let one : hit y j * sum_to n (λ i. hit x i) ≡ hit y j = rw (sum_hit n x hx) (omega arith) in
      column_sum n grown j ∙ sum_ext n _ _ (λ i p. grown_cell i j p q) ∙ sum_add n _ _
      ∙ ap₂ ◌+◌ (sym (column_sum n a j)) (sum_ext n _ _ (λ i p. omega arith) ∙ sum_scale n (hit y j) (λ i. hit x i) ∙ one)

  grown_total : total n grown ≡ total n a + 1
  grown_total = total_rows n grown ∙ sum_ext n _ _ grown_row ∙ sum_add n _ _ ∙ ap₂ ◌+◌ (sym (total_rows n a)) (sum_hit n x hx)

module _ {n : ℕ} {cap d a : List ℕ} (g : Greatest n cap d a) where
  -- A could grow by 1 where two lines too long meet in more than 0
  meet_in_zero : (i j : ℕ) → i < n → j < n → longer n cap (left n d a) i ≡ true → longer n cap (left n d a) (n + j) ≡ true → cell n (left n d a) i j ≡ 0
  meet_in_zero x y hx hy lx ly =
      by_eq (cell n (left n d a) x y) 0
      (λ e. e)
      (λ ne. absurd (let more = g.most (grown n a x y hx hy) (feasible_is_withdrawn n cap d (fits ne)) in omega (arith, more, grown_total n a x y hx hy)))
    where
      w : Withdrawn n cap d a
      w = g.withdrawn

      below : (cell n (left n d a) x y ≡ 0 → ⊥) → (i j : ℕ) → i < n → j < n → cell n (grown n a x y hx hy) i j ≤ cell n d i j
      below ne i j p q =
          by_eq x i
          (λ ex. by_eq y j
          (λ ey.
          let one : hit x i * hit y j ≡ 1 = rw (hit_same ex, hit_same ey) refl in
          let same : cell n (left n d a) x y ≡ cell n (left n d a) i j = ap₂ (cell n (left n d a)) ex ey in
          omega (arith, grown_cell n a x y hx hy i j p q, left_cell n d a i j p q, ne))
          (λ ny. let none : hit x i * hit y j ≡ 0 = rw (hit_other ny) (omega arith) in omega (arith, grown_cell n a x y hx hy i j p q, w.below i j p q)))
          (λ nx. let none : hit x i * hit y j ≡ 0 = rw (hit_other nx) (omega arith) in omega (arith, grown_cell n a x y hx hy i j p q, w.below i j p q))

      -- a line with headroom for one more
      headroom : (ℓ : ℕ) → ℓ < 2 * n → longer n cap (left n d a) ℓ ≡ true → line_sum n a ℓ + 1 ≤ excess n cap d ℓ
      headroom ℓ h l = omega (arith, excess_parts w ℓ h, longer_is n cap (left n d a) ℓ l)

      lines : (ℓ : ℕ) → ℓ < 2 * n → line_sum n (grown n a x y hx hy) ℓ ≤ excess n cap d ℓ
      lines ℓ h =
          by_lt ℓ n
          (λ p. by_eq x ℓ
          (λ e. omega (arith, grown_row n a x y hx hy ℓ p, hit_same e, headroom ℓ h (ap (longer n cap (left n d a)) (sym e) ∙ lx)))
          (λ ne. omega (arith, grown_row n a x y hx hy ℓ p, hit_other ne, w.lines ℓ h)))
          (λ p.
          let j = ℓ - n in
          let at : n + j ≡ ℓ = omega arith in
          let column : line_sum n (grown n a x y hx hy) ℓ ≡ line_sum n a ℓ + hit y j = rw at at (grown_column n a x y hx hy j (omega arith)) in
          by_eq y j
          (λ e. omega (arith, column, hit_same e, headroom ℓ h (ap (longer n cap (left n d a)) (sym at ∙ ap (λ x. n + x) (sym e)) ∙ ly)))
          (λ ne. omega (arith, column, hit_other ne, w.lines ℓ h)))

      fits : (cell n (left n d a) x y ≡ 0 → ⊥) → Feasible n d (tab (2 * n) (excess n cap d)) (grown n a x y hx hy)
      fits ne = record { below = below ne; lines = λ ℓ h. rw (ceiling_at n cap d ℓ h) (lines ℓ h) }

  pub two_longer_lines_meet_in_zero : MeetInZero n cap (left n d a)
  two_longer_lines_meet_in_zero = record { zero = meet_in_zero }
