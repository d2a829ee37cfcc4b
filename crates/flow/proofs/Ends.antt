-- From the start to the end: a matrix of zeros whose headroom is the ceilings is feasible, and stays so while spans are kept; where it cannot grow the marks are
-- closed. Only the cells needed matter. Assumes nothing.
use Prim.Native.Nat.{ℕ, ◌+◌, ◌*◌, ◌<◌}
use native.Mathlib.Omega.{arith}
use mathlib.Core.Path.{◌≡◌, sym, ◌∙◌, ap}
use mathlib.Core.Bool.{Bool, true, false}
use mathlib.Core.List.{List, ◌++◌}
use lib.ListN.{length, get_or, take, drop, get_or-append}
use lib.Seq.{get_or-take}
use lib.Dec.{ltb}
use borrow.Author.Tests.{ltb-true, ltb-false}
use Rattle.sums.specs.Tables.{cell}
use Rattle.sums.proofs.Sums.{sum_all_zero}
use Rattle.sums.proofs.Tables.{cell_lt}
use Rattle.star.specs.Lines.{source_on, destination_on, on_line, line_sum}
use Rattle.star.proofs.LineLaws.{source_lt, destination_lt, line_ext}
use Rattle.growth.specs.Growth.{span}
use Rattle.flow.specs.Flows.{Feasible, Closed, marked}
use Rattle.flow.specs.Certified.{Bounded, Finished, Certified, HeadroomLeft}
use Rattle.flow.specs.Grows.{Empty, Grown}

-- ---- the start
module _ (n : ℕ) (a : List ℕ) (zeros : (k : ℕ) → k < n * n → get_or a k 0 ≡ 0) where
  pub zero_cell : (i j : ℕ) → i < n → j < n → cell n a i j ≡ 0
  unfolding cell
  zero_cell i j hi hj = zeros (i * n + j) (cell_lt n i j hi hj)

  pub zero_span : (headroom : List ℕ) (ℓ : ℕ) → ℓ < 2 * n → span n a headroom ℓ ≡ get_or headroom ℓ 0
  unfolding span line_sum on_line
  zero_span headroom ℓ q = omega (arith, sum_all_zero n (λ t. cell n a (source_on n ℓ t) (destination_on n ℓ t)) (λ t h. zero_cell _ _ (source_lt n ℓ t q h) (destination_lt n ℓ t q h)))

  pub empty_start : (bound old headroom marks : List ℕ) → Bounded n bound headroom old marks → length a ≡ length old → Empty n bound a headroom marks
  empty_start bound old headroom marks b len = record {
    below = record { bounds = b.bounds; cells = record { nodes = b.cells.nodes; cells = omega (arith, b.cells.cells) }; below = λ i j p q. omega (arith, zero_cell i j p q) };
    zeros = zero_cell;
    headrooms = b.ceilings;
    lines = b.lines;
  }

-- ---- the end
module _ {n : ℕ} {bound a ceiling a' headroom' marks : List ℕ} (f : Grown n bound a ceiling a' headroom' marks) (zeros : (k : ℕ) → k < n * n → get_or a k 0 ≡ 0) where
  -- a line's sum and headroom are its ceiling
  whole : (ℓ : ℕ) → ℓ < 2 * n → line_sum n a' ℓ + get_or headroom' ℓ 0 ≡ get_or ceiling ℓ 0
  unfolding span
  whole ℓ q = omega (arith, f.kept.spans ℓ q, zero_span n a zeros ceiling ℓ q)

  pub finished : Finished n bound ceiling a' headroom' marks
  finished = record {
    feasible = record { below = f.below; lines = λ ℓ q. omega (arith, whole ℓ q) };
    closed = record {
      rows = λ i p m. omega (arith, whole i (omega arith), f.rows i p (omega (arith, ltb-false 0 (get_or marks i 0) m)));
      columns = λ j q m. omega (arith, whole (n + j) (omega arith), f.columns j q (ltb-true 0 (get_or marks (n + j) 0) m));
      full = λ i j p q m u. f.full i j p q (ltb-true 0 (get_or marks i 0) m) (omega (arith, ltb-false 0 (get_or marks (n + j) 0) u));
      empty = λ i j p q m u. f.empty i j p q (omega (arith, ltb-false 0 (get_or marks i 0) m)) (ltb-true 0 (get_or marks (n + j) 0) u);
    };
    lines = whole;
  }

-- ---- longer tables
module _ (n : ℕ) (bound ceiling a headroom marks s t u : List ℕ) (fits : length a ≡ n * n) (headrooms : length headroom ≡ 2 * n) (lines : length marks ≡ 2 * n) (F : Finished n bound (take (2 * n) ceiling) a headroom marks) where
  front_cell : (i j : ℕ) → i < n → j < n → cell n (a ++ t) i j ≡ cell n a i j
  unfolding cell
  front_cell i j p q = get_or-append a t 0 (i * n + j) (omega (arith, cell_lt n i j p q))

  front_line : (ℓ : ℕ) → ℓ < 2 * n → line_sum n (a ++ t) ℓ ≡ line_sum n a ℓ
  front_line = line_ext n (a ++ t) a front_cell

  front_ceiling : (ℓ : ℕ) → ℓ < 2 * n → get_or (take (2 * n) ceiling) ℓ 0 ≡ get_or ceiling ℓ 0
  front_ceiling ℓ q = get_or-take (2 * n) ceiling ℓ 0 q

  front_mark : (ℓ : ℕ) → ℓ < 2 * n → get_or (marks ++ u) ℓ 0 ≡ get_or marks ℓ 0
  front_mark ℓ q = get_or-append marks u 0 ℓ (omega arith)

  marked_front : (ℓ : ℕ) → ℓ < 2 * n → (b : Bool) → marked (marks ++ u) ℓ ≡ b → marked marks ℓ ≡ b
  marked_front ℓ q b e = ap (ltb 0) (sym (front_mark ℓ q)) ∙ e

  feasible_front : Feasible n bound ceiling (a ++ t)
  feasible_front = record {
    below = λ i j p q. omega (arith, front_cell i j p q, F.feasible.below i j p q);
    lines = λ ℓ q. omega (arith, front_line ℓ q, front_ceiling ℓ q, F.feasible.lines ℓ q);
  }

  closed_front : Closed n bound ceiling (a ++ t) (marks ++ u)
  closed_front =
      let c = F.closed in
      record {
        rows = λ i p m. front_line i (omega arith) ∙ c.rows i p (marked_front i (omega arith) false m) ∙ front_ceiling i (omega arith);
        columns = λ j q m. front_line (n + j) (omega arith) ∙ c.columns j q (marked_front (n + j) (omega arith) true m) ∙ front_ceiling (n + j) (omega arith);
        full = λ i j p q m v. front_cell i j p q ∙ c.full i j p q (marked_front i (omega arith) true m) (marked_front (n + j) (omega arith) false v);
        empty = λ i j p q m v. front_cell i j p q ∙ c.empty i j p q (marked_front i (omega arith) false m) (marked_front (n + j) (omega arith) true v);
      }

  -- the first cells of each table are written, and only they matter
  pub fronts : (a₀ marks₀ : List ℕ) → drop (n * n) (a ++ t) ≡ drop (n * n) a₀ → drop (2 * n) (headroom ++ s) ≡ drop (2 * n) ceiling → drop (2 * n) (marks ++ u) ≡ drop (2 * n) marks₀ → Certified n bound ceiling a₀ marks₀ (a ++ t) (marks ++ u) × HeadroomLeft n ceiling (a ++ t) (headroom ++ s)
  fronts a₀ marks₀ da dr dm = (
    record { feasible = feasible_front; closed = closed_front; rest = da; rest_marks = dm },
    record { lines = λ ℓ q. omega (arith, front_line ℓ q, front_ceiling ℓ q, F.lines ℓ q, get_or-append headroom s 0 ℓ (omega arith)); rest = dr },
  )
