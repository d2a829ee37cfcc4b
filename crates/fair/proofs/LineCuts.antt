-- What cutting a line does to the sums a and b of every line, with p = L−b and q = a of the line that is cut. It has nothing unmodified left, and its b grows by the new cells.
-- A line that crosses it loses the cell v there from a, and gains v×p/q rounded down in b. A line beside it keeps both.
-- Each law first for a pair, by whether it is modified and whether it lies on the line, then for a line by its sum. Assumes nothing.
use Prim.Native.Nat.{ℕ, ◌+◌, ◌*◌, ◌/◌, ◌≤◌, ◌<◌}
use native.Mathlib.Omega.{arith}
use mathlib.Core.Path.{◌≡◌, refl, sym, ap, ap₂, ◌∙◌}
use mathlib.Core.Bool.{Bool, true, false, cond, not, ◌||◌, or-true, or-false}
use mathlib.Core.List.{List}
use lib.ListN.{length, get_or, set}
use lib.Seq.{get_or-set_same, get_or-set_other}
use lib.Dec.{ltb, eqb}
use borrow.Author.Tests.{eq-eqb, ne_eqb}
use Rattle.sums.specs.Sums.{sum_to, gate}
use Rattle.sums.specs.Tables.{cell}
use Rattle.sums.proofs.Cases.{by_eq}
use Rattle.sums.proofs.Sums.{sum_ext, sum_add, sum_update, sum_all_zero, sum_at}
use Rattle.sums.proofs.Gates.{gate_split}
use Rattle.sums.proofs.Tables.{square_cell}
use Rattle.star.specs.Lines.{source_on, destination_on, crossing, on_line, line_sum}
use Rattle.star.proofs.LineLaws.{source_lt, destination_lt}
use Rattle.fair.specs.Fair.{Cutting, modified, modified_sum, unmodified_sum, numerator, cut_cell, cut_line}
use Rattle.star.proofs.CrossingLaws.{pair_lines, crossing_once, Meet, Beside}
use Rattle.sums.proofs.Fractions.{floor_none}

-- ---- a pair
-- what a pair adds to the sum of the unmodified cells of its lines ..
unfoldable pub loose : (n : ℕ) (s : Cutting) (i j : ℕ) → ℕ
loose n s i j = gate (not (modified n s i j)) (cell n s.values i j)

-- .. and to the sum of the modified ones
unfoldable pub fixed : (n : ℕ) (s : Cutting) (i j : ℕ) → ℕ
fixed n s i j = gate (modified n s i j) (cell n s.values i j)

-- the same of the t-th pair of line m
abbrev pub loose_on : (n : ℕ) (s : Cutting) (m t : ℕ) → ℕ
loose_on n s m t = loose n s (source_on n m t) (destination_on n m t)

abbrev pub fixed_on : (n : ℕ) (s : Cutting) (m t : ℕ) → ℕ
fixed_on n s m t = fixed n s (source_on n m t) (destination_on n m t)

module _ (n : ℕ) (s : Cutting) where
  -- a cell is in one of the two sums
  pub cell_split : (i j : ℕ) → cell n s.values i j ≡ fixed n s i j + loose n s i j
  unfolding fixed loose
  cell_split i j = gate_split (modified n s i j) (cell n s.values i j)

  pub unmodified_is : (m : ℕ) → unmodified_sum n s m ≡ sum_to n (λ t. loose_on n s m t)
  unfolding unmodified_sum loose on_line
  unmodified_is m = refl

  pub modified_is : (m : ℕ) → modified_sum n s m ≡ sum_to n (λ t. fixed_on n s m t)
  unfolding modified_sum fixed on_line
  modified_is m = refl

  -- a line's sum is a + b
  pub line_split : (m : ℕ) → line_sum n s.values m ≡ unmodified_sum n s m + modified_sum n s m
  unfolding line_sum on_line
  line_split m =
      sum_ext n _ _ (λ t h. omega (arith, cell_split (source_on n m t) (destination_on n m t)))
      ∙ sum_add n (λ t. loose_on n s m t) (λ t. fixed_on n s m t)
      ∙ sym (ap₂ ◌+◌ (unmodified_is m) (modified_is m))

  -- the pairs of a line are modified where the line or the line that crosses there has been cut
  pub modified_on : (m t : ℕ) → modified n s (source_on n m t) (destination_on n m t) ≡ (ltb 0 (get_or s.done m 0) || ltb 0 (get_or s.done (crossing n m t) 0))
  unfolding modified
  modified_on m t = pair_lines n m t (λ x. ltb 0 (get_or s.done x 0))

  -- an unmodified cell is at most the sum of those of each of its lines
  pub loose_most : (m t : ℕ) → t < n → loose_on n s m t ≤ unmodified_sum n s m
  loose_most m t h = rw (unmodified_is m) (sum_at n (λ t. loose_on n s m t) t h)

module _ (n : ℕ) (cap : List ℕ) (s : Cutting) (ℓ : ℕ) (at : ℓ < length s.done) where
  flag_after : (x : ℕ) → ltb 0 (get_or (set s.done ℓ 1) x 0) ≡ (ltb 0 (get_or s.done x 0) || eqb x ℓ)
  flag_after x =
      by_eq x ℓ
      (λ e. rw (e, get_or-set_same s.done ℓ 1 0 at, eq-eqb ℓ ℓ refl) (sym (or-true (ltb 0 (get_or s.done ℓ 0)))))
      (λ ne. rw (get_or-set_other s.done ℓ x 1 0 ne, ne_eqb x ℓ ne) (sym (or-false (ltb 0 (get_or s.done x 0)))))

  or_pairs : (a b c d : Bool) → ((a || b) || (c || d)) ≡ ((a || c) || (b || d))
  or_pairs true b c d = refl
  or_pairs false true true d = refl
  or_pairs false true false d = refl
  or_pairs false false c d = refl

  -- a pair is modified afterwards where it was, or lies on the line
  pub modified_after : (i j : ℕ) → modified n (cut_line n cap s ℓ) i j ≡ (modified n s i j || (eqb i ℓ || eqb (n + j) ℓ))
  unfolding modified cut_line
  modified_after i j =
      ap₂ ◌||◌ (flag_after i) (flag_after (n + j))
      ∙ or_pairs (ltb 0 (get_or s.done i 0)) (eqb i ℓ) (ltb 0 (get_or s.done (n + j) 0)) (eqb (n + j) ℓ)

  module _ (i j : ℕ) (hi : i < n) (hj : j < n) where
    -- a pair on the line
    module _ (on : (eqb i ℓ || eqb (n + j) ℓ) ≡ true) where
      modified_on_cut : modified n (cut_line n cap s ℓ) i j ≡ true
      modified_on_cut = modified_after i j ∙ rw on (or-true (modified n s i j))

      pub value_on_cut : cell n (cut_line n cap s ℓ).values i j ≡ fixed n s i j + loose n s i j * numerator n cap s ℓ / unmodified_sum n s ℓ
      unfolding cut_line cut_cell fixed loose
      value_on_cut = square_cell n (cut_cell n cap s ℓ) i j hi hj ∙ rw on (go (modified n s i j))
        where
          go : (b : Bool) → cond b (cell n s.values i j) (cell n s.values i j * numerator n cap s ℓ / unmodified_sum n s ℓ) ≡ gate b (cell n s.values i j) + gate (not b) (cell n s.values i j) * numerator n cap s ℓ / unmodified_sum n s ℓ
          go true = omega (arith, floor_none (numerator n cap s ℓ) (unmodified_sum n s ℓ))
          go false = omega arith

      loose_on_cut : loose n (cut_line n cap s ℓ) i j ≡ 0
      unfolding loose
      loose_on_cut = rw modified_on_cut refl

      all_fixed : fixed n (cut_line n cap s ℓ) i j ≡ cell n (cut_line n cap s ℓ).values i j
      unfolding fixed
      all_fixed = rw modified_on_cut refl

      fixed_on_cut : fixed n (cut_line n cap s ℓ) i j ≡ fixed n s i j + loose n s i j * numerator n cap s ℓ / unmodified_sum n s ℓ
      fixed_on_cut = all_fixed ∙ value_on_cut

    -- any other pair
    module _ (off : (eqb i ℓ || eqb (n + j) ℓ) ≡ false) where
      modified_off_cut : modified n (cut_line n cap s ℓ) i j ≡ modified n s i j
      modified_off_cut = modified_after i j ∙ rw off (or-false (modified n s i j))

      pub value_off_cut : cell n (cut_line n cap s ℓ).values i j ≡ cell n s.values i j
      unfolding cut_line cut_cell
      value_off_cut = square_cell n (cut_cell n cap s ℓ) i j hi hj ∙ rw off (go (modified n s i j))
        where
          go : (b : Bool) → cond b (cell n s.values i j) (cell n s.values i j) ≡ cell n s.values i j
          go true = refl
          go false = refl

      loose_off_cut : loose n (cut_line n cap s ℓ) i j ≡ loose n s i j
      unfolding loose
      loose_off_cut = rw (modified_off_cut, value_off_cut) refl

      fixed_off_cut : fixed n (cut_line n cap s ℓ) i j ≡ fixed n s i j
      unfolding fixed
      fixed_off_cut = rw (modified_off_cut, value_off_cut) refl

  -- ---- a line
  pub on_own : (t : ℕ) → (eqb (source_on n ℓ t) ℓ || eqb (n + destination_on n ℓ t) ℓ) ≡ true
  on_own t = pair_lines n ℓ t (λ x. eqb x ℓ) ∙ rw (eq-eqb ℓ ℓ refl) refl

  on_crossing : (m t : ℕ) → crossing n m t ≡ ℓ → (eqb (source_on n m t) ℓ || eqb (n + destination_on n m t) ℓ) ≡ true
  on_crossing m t e = pair_lines n m t (λ x. eqb x ℓ) ∙ rw (eq-eqb (crossing n m t) ℓ e) (or-true (eqb m ℓ))

  off_else : (m t : ℕ) → (m ≡ ℓ → ⊥) → (crossing n m t ≡ ℓ → ⊥) → (eqb (source_on n m t) ℓ || eqb (n + destination_on n m t) ℓ) ≡ false
  off_else m t ne nc = pair_lines n m t (λ x. eqb x ℓ) ∙ rw (ne_eqb m ℓ ne, ne_eqb (crossing n m t) ℓ nc) refl

  -- the line that is cut
  module _ (hl : ℓ < 2 * n) where
    pub own_unmodified : unmodified_sum n (cut_line n cap s ℓ) ℓ ≡ 0
    own_unmodified =
        unmodified_is n (cut_line n cap s ℓ) ℓ
        ∙ sum_all_zero n _ (λ t h. loose_on_cut _ _ (source_lt n ℓ t hl h) (destination_lt n ℓ t hl h) (on_own t))

    pub own_modified : modified_sum n (cut_line n cap s ℓ) ℓ ≡ modified_sum n s ℓ + sum_to n (λ t. loose_on n s ℓ t * numerator n cap s ℓ / unmodified_sum n s ℓ)
    own_modified =
        modified_is n (cut_line n cap s ℓ) ℓ
        ∙ sum_ext n _ _ (λ t h. fixed_on_cut _ _ (source_lt n ℓ t hl h) (destination_lt n ℓ t hl h) (on_own t))
        ∙ sum_add n
        (λ t. fixed_on n s ℓ t)
        (λ t. loose_on n s ℓ t * numerator n cap s ℓ / unmodified_sum n s ℓ)
        ∙ ap (λ x. x + sum_to n (λ t. loose_on n s ℓ t * numerator n cap s ℓ / unmodified_sum n s ℓ)) (sym (modified_is n s ℓ))

  -- any other line
  module _ (m : ℕ) (hm : m < 2 * n) (ne : m ≡ ℓ → ⊥) where
    -- it crosses the line that is cut
    module _ (x : Meet n ℓ m) where
      off_there : (t : ℕ) → (t ≡ x.y → ⊥) → (eqb (source_on n m t) ℓ || eqb (n + destination_on n m t) ℓ) ≡ false
      off_there t nt = off_else m t ne (λ e. nt (crossing_once n m t x.y (e ∙ sym x.here)))

      pub crossed_unmodified : unmodified_sum n (cut_line n cap s ℓ) m + loose_on n s ℓ x.w ≡ unmodified_sum n s m
      crossed_unmodified =
          omega (
            arith,
            unmodified_is n (cut_line n cap s ℓ) m,
            unmodified_is n s m,
            sum_update n
                (λ t. loose_on n s m t)
                (λ t. loose_on n (cut_line n cap s ℓ) m t)
                x.y
                x.within.1
                (λ t h nt. loose_off_cut _ _ (source_lt n m t hm h) (destination_lt n m t hm h) (off_there t nt)),
            ap₂ (loose n s) x.source x.destination,
            loose_on_cut _ _ (source_lt n m x.y hm x.within.1) (destination_lt n m x.y hm x.within.1) (on_crossing m x.y x.here),
          )

      pub crossed_modified : modified_sum n (cut_line n cap s ℓ) m ≡ modified_sum n s m + loose_on n s ℓ x.w * numerator n cap s ℓ / unmodified_sum n s ℓ
      crossed_modified =
          omega (
            arith,
            modified_is n (cut_line n cap s ℓ) m,
            modified_is n s m,
            sum_update n
                (λ t. fixed_on n s m t)
                (λ t. fixed_on n (cut_line n cap s ℓ) m t)
                x.y
                x.within.1
                (λ t h nt. fixed_off_cut _ _ (source_lt n m t hm h) (destination_lt n m t hm h) (off_there t nt)),
            ap (λ v. v * numerator n cap s ℓ / unmodified_sum n s ℓ) (ap₂ (loose n s) x.source x.destination),
            fixed_on_cut _ _ (source_lt n m x.y hm x.within.1) (destination_lt n m x.y hm x.within.1) (on_crossing m x.y x.here),
          )

    -- it runs beside
    module _ (x : Beside n ℓ m) where
      pub beside_unmodified : unmodified_sum n (cut_line n cap s ℓ) m ≡ unmodified_sum n s m
      beside_unmodified =
          unmodified_is n (cut_line n cap s ℓ) m
          ∙ sum_ext n _ _ (λ t h. loose_off_cut _ _ (source_lt n m t hm h) (destination_lt n m t hm h) (off_else m t ne (x.here t h)))
          ∙ sym (unmodified_is n s m)

      pub beside_modified : modified_sum n (cut_line n cap s ℓ) m ≡ modified_sum n s m
      beside_modified =
          modified_is n (cut_line n cap s ℓ) m
          ∙ sum_ext n _ _ (λ t h. fixed_off_cut _ _ (source_lt n m t hm h) (destination_lt n m t hm h) (off_else m t ne (x.here t h)))
          ∙ sym (modified_is n s m)
