-- The invariant of the steps: b ≤ L on every line, so that a line above its capacity has a > 0 and a fraction from 0 to below 1; no line that has been cut is above its capacity.
-- Cutting the line γ with the smallest fraction p/q keeps it. On γ the new cells sum to at most p. A line β still too long that loses the cell v has p×a ≤ (L−b)×q by the choice of γ,
-- and v ≤ a: so v×p/q rounded down is at most L−b. No cell grows. Each step that cuts cuts a line more, so after 2N steps none exceeds.
-- The laws ask nothing of demands and capacities. Assumes nothing.
use Prim.Native.Nat.{ℕ, zero, suc, ◌+◌, ◌*◌, ◌/◌, ◌≤◌, ◌<◌}
use native.Mathlib.Omega.{arith}
use mathlib.Core.Path.{◌≡◌, refl, sym, ap, ◌∙◌}
use mathlib.Core.Bool.{Bool, true, false, ◌||◌}
use mathlib.Core.Logic.{◌⊎◌, inl, inr, ⊎_elim}
use mathlib.Core.List.{List}
use lib.ListN.{length, get_or, length-set, length-replicate, get_or-replicate}
use lib.Seq.{get_or-set_same, get_or-set_other}
use lib.Dec.{ltb, eqb}
use borrow.Author.Tests.{lt-ltb, le-ltb, ltb-true}
use Rattle.sums.specs.Sums.{sum_to, bit}
use Rattle.sums.specs.Tables.{cell}
use Rattle.sums.proofs.Cases.{by_eq, by_lt}
use Rattle.sums.proofs.Sums.{sum_all_zero, sum_bump, sum_one, sum_tight}
use Rattle.sums.proofs.Gates.{bit_most, bit_one}
use Rattle.sums.proofs.Tables.{length_square, square_cell}
use Rattle.star.specs.Lines.{source_on, destination_on, crossing, line_sum, Admissible}
use Rattle.star.proofs.LineLaws.{line_ext, line_mono}
use Rattle.fair.specs.Fair.{Cutting, modified, modified_sum, unmodified_sum, numerator, taken, cut_cell, cut_line, step, steps, uncut, fair_kept}
use Rattle.fair.specs.Cuts.{Sound, Smallest}
use Rattle.star.proofs.CrossingLaws.{Meet, Beside, two_lines, crossing_lt}
use Rattle.sums.proofs.Fractions.{floor_most, floor_less, floor_none, floors_most}
use Rattle.fair.proofs.LineCuts.{loose, loose_on, unmodified_is, modified_on, cell_split, line_split, value_on_cut, value_off_cut, own_unmodified, own_modified, crossed_unmodified, crossed_modified, beside_unmodified, beside_modified}
use Rattle.fair.proofs.Choices.{Quiet, taken_smallest, taken_none}

-- a line other than the one cut with p/q: the cell v goes over from a to b as v×p/q rounded down (v is 0 where nothing does)
pub record Passed (p q a b a' b' : ℕ) : Type 0 where
  pub v : ℕ
  pub less : a' + v ≡ a
  pub more : b' ≡ b + v * p / q

-- ---- a line above its capacity
module _ (n : ℕ) (cap : List ℕ) (s : Cutting) (h : Sound n cap s) where
  module _ (m : ℕ) (hm : m < 2 * n) (over : get_or cap m 0 < line_sum n s.values m) where
    -- something of it is unmodified: no division by zero
    pub over_some : 0 < unmodified_sum n s m
    over_some = omega (arith, line_split n s m, h.within m hm)

    -- its fraction is below 1
    pub over_proper : numerator n cap s m < unmodified_sum n s m
    unfolding numerator
    over_proper = omega (arith, line_split n s m, h.within m hm)

    -- it has not been cut
    pub over_uncut : get_or s.done m 0 ≡ 0
    over_uncut = by_lt 0 (get_or s.done m 0) (λ k. absurd (omega (arith, h.closed m hm k))) (λ k. omega arith)

  -- the line that is taken, if there is one
  pub taken_is_smallest : taken n cap s (2 * n) < 2 * n → Smallest n cap s (2 * n) (taken n cap s (2 * n))
  taken_is_smallest = taken_smallest n cap s over_some

  pub none_taken_none_over : 2 * n ≤ taken n cap s (2 * n) → Quiet n cap s (2 * n)
  none_taken_none_over = taken_none n cap s over_some

  -- ---- the line with the smallest fraction is cut
  module _ (ℓ : ℕ) (γ : Smallest n cap s (2 * n) ℓ) where
    at : ℓ < length s.done
    at = omega (arith, h.flags, γ.line)

    proper : numerator n cap s ℓ ≤ unmodified_sum n s ℓ
    proper = omega (arith, over_proper ℓ γ.line γ.over)

    -- it ends at most at its capacity
    pub cut_line_fits : line_sum n (cut_line n cap s ℓ).values ℓ ≤ get_or cap ℓ 0
    unfolding numerator
    cut_line_fits =
        omega (
          arith,
          line_split n (cut_line n cap s ℓ) ℓ,
          own_unmodified n cap s ℓ at γ.line,
          own_modified n cap s ℓ at γ.line,
          h.within ℓ γ.line,
          floors_most n (numerator n cap s ℓ) (unmodified_sum n s ℓ) (λ t. loose_on n s ℓ t) (over_some ℓ γ.line γ.over) (sym (unmodified_is n s ℓ)),
        )

    -- any other line
    pub other_line_passes : (m : ℕ) → m < 2 * n → (m ≡ ℓ → ⊥) → Passed (numerator n cap s ℓ) (unmodified_sum n s ℓ) (unmodified_sum n s m) (modified_sum n s m) (unmodified_sum n (cut_line n cap s ℓ) m) (modified_sum n (cut_line n cap s ℓ) m)
    other_line_passes m hm ne =
        ⊎_elim
        (λ (x : Meet n ℓ m). record {
          v = loose_on n s ℓ x.w;
          less = crossed_unmodified n cap s ℓ at m hm ne x;
          more = crossed_modified n cap s ℓ at m hm ne x;
        })
        (λ (x : Beside n ℓ m). record {
          v = 0;
          less = omega (arith, beside_unmodified n cap s ℓ at m hm ne x);
          more = omega (arith, beside_modified n cap s ℓ at m hm ne x, floor_none (numerator n cap s ℓ) (unmodified_sum n s ℓ));
        })
        (two_lines n ℓ m γ.line hm)

    -- no cell grows
    pub cell_shrinks : (i j : ℕ) → i < n → j < n → cell n (cut_line n cap s ℓ).values i j ≤ cell n s.values i j
    cell_shrinks i j hi hj = go (eqb i ℓ || eqb (n + j) ℓ) refl
      where
        go : (b : Bool) → (eqb i ℓ || eqb (n + j) ℓ) ≡ b → cell n (cut_line n cap s ℓ).values i j ≤ cell n s.values i j
        go true e =
            omega (
              arith,
              value_on_cut n cap s ℓ at i j hi hj e,
              cell_split n s i j,
              floor_less (loose n s i j) (numerator n cap s ℓ) (unmodified_sum n s ℓ) proper,
            )
        go false e = omega (arith, value_off_cut n cap s ℓ at i j hi hj e)

    -- no line grows
    pub line_shrinks : (m : ℕ) → m < 2 * n → line_sum n (cut_line n cap s ℓ).values m ≤ line_sum n s.values m
    line_shrinks = line_mono n (cut_line n cap s ℓ).values s.values cell_shrinks

    passed_within : (m : ℕ) → m < 2 * n → (m ≡ ℓ → ⊥) → modified_sum n (cut_line n cap s ℓ) m ≤ get_or cap m 0
    unfolding numerator
    passed_within m hm ne =
        by_lt (get_or cap m 0) (line_sum n s.values m)
        (λ over.
        let x = other_line_passes m hm ne in
        omega (
          arith,
          x,
          h.within m hm,
          floor_most x.v (unmodified_sum n s m) (numerator n cap s ℓ) (unmodified_sum n s ℓ) (numerator n cap s m) (omega (arith, x)) (γ.smallest m hm over),
        ))
        (λ under. omega (arith, line_shrinks m hm, line_split n (cut_line n cap s ℓ) m))

    flag_kept : (m : ℕ) → (m ≡ ℓ → ⊥) → get_or (cut_line n cap s ℓ).done m 0 ≡ get_or s.done m 0
    unfolding cut_line
    flag_kept m ne = get_or-set_other s.done ℓ m 1 0 ne

    pub cut_flag : get_or (cut_line n cap s ℓ).done ℓ 0 ≡ 1
    unfolding cut_line
    cut_flag = get_or-set_same s.done ℓ 1 0 at

    cut_lengths : (length (cut_line n cap s ℓ).values ≡ n * n) × (length (cut_line n cap s ℓ).done ≡ 2 * n)
    unfolding cut_line
    cut_lengths = (length_square n (cut_cell n cap s ℓ), length-set s.done ℓ 1 ∙ h.flags)

    -- the invariant holds afterwards
    pub cut_sound : Sound n cap (cut_line n cap s ℓ)
    cut_sound = record {
      cells = cut_lengths.0;
      flags = cut_lengths.1;
      within = λ m hm. by_eq m ℓ (λ e. rw e (omega (arith, cut_line_fits, line_split n (cut_line n cap s ℓ) ℓ))) (passed_within m hm);
      closed = λ m hm f. by_eq m ℓ (λ e. rw e cut_line_fits) (λ ne. omega (arith, line_shrinks m hm, h.closed m hm (omega (arith, flag_kept m ne))));
    }

-- ---- steps
module _ (n : ℕ) (cap : List ℕ) (s : Cutting) where
  pub step_cuts : taken n cap s (2 * n) < 2 * n → step n cap s ≡ cut_line n cap s (taken n cap s (2 * n))
  unfolding step
  step_cuts h = rw (lt-ltb (taken n cap s (2 * n)) (2 * n) h) refl

  -- a step that finds no line changes nothing
  pub step_still : 2 * n ≤ taken n cap s (2 * n) → step n cap s ≡ s
  unfolding step
  step_still h = rw (le-ltb (taken n cap s (2 * n)) (2 * n) h) refl

-- neither do the steps after it
pub steps_still : (n : ℕ) (cap : List ℕ) (s : Cutting) (m k : ℕ) → 2 * n ≤ taken n cap (steps n cap s m) (2 * n) → m ≤ k → steps n cap s k ≡ steps n cap s m
unfolding steps
steps_still n cap s m zero h le = let e : 0 ≡ m = omega arith in ap (steps n cap s) e
steps_still n cap s m (suc k) h le =
    by_eq m (suc k)
    (λ e. ap (steps n cap s) (sym e))
    (λ ne. ap (step n cap) (steps_still n cap s m k h (omega arith)) ∙ step_still n cap (steps n cap s m) h)

-- what holds at the start, and afterwards wherever a line with the smallest fraction is cut, holds after every step
pub steps_keep : (n : ℕ) (cap : List ℕ) (s : Cutting) (P : Cutting → Type 0) → Sound n cap s → P s →
    ((r : Cutting) (ℓ : ℕ) → Sound n cap r → P r → Smallest n cap r (2 * n) ℓ → P (cut_line n cap r ℓ)) →
    (m : ℕ) → Sound n cap (steps n cap s m) × P (steps n cap s m)
unfolding steps
steps_keep n cap s P h p cut zero = (h, p)
steps_keep n cap s P h p cut (suc m) =
    let was : Sound n cap (steps n cap s m) × P (steps n cap s m) = steps_keep n cap s P h p cut m in
    by_lt (taken n cap (steps n cap s m) (2 * n)) (2 * n)
    (λ lt. rw (step_cuts n cap (steps n cap s m) lt) (cut_sound n cap (steps n cap s m) was.0 _ (taken_is_smallest n cap (steps n cap s m) was.0 lt), cut (steps n cap s m) _ was.0 was.1 (taken_is_smallest n cap (steps n cap s m) was.0 lt)))
    (λ ge. rw (step_still n cap (steps n cap s m) ge) was)

-- ---- the start
module _ (n : ℕ) (d : List ℕ) where
  pub uncut_cell : (i j : ℕ) → i < n → j < n → cell n (uncut n d).values i j ≡ cell n d i j
  unfolding uncut
  uncut_cell i j hi hj = square_cell n (cell n d) i j hi hj

  pub uncut_flag : (m : ℕ) → m < 2 * n → get_or (uncut n d).done m 0 ≡ 0
  unfolding uncut
  uncut_flag m h = get_or-replicate (2 * n) m 0 0 h

  uncut_lengths : (length (uncut n d).values ≡ n * n) × (length (uncut n d).done ≡ 2 * n)
  unfolding uncut
  uncut_lengths = (length_square n (cell n d), length-replicate (2 * n) 0)

  module _ (m : ℕ) (hm : m < 2 * n) where
    pub uncut_modified : (t : ℕ) → t < n → modified n (uncut n d) (source_on n m t) (destination_on n m t) ≡ false
    uncut_modified t h = modified_on n (uncut n d) m t ∙ rw (uncut_flag m hm, uncut_flag (crossing n m t) (crossing_lt n m t hm h)) refl

    -- no cell is modified
    pub uncut_b : modified_sum n (uncut n d) m ≡ 0
    unfolding modified_sum
    uncut_b = sum_all_zero n _ (λ t h. rw (uncut_modified t h) refl)

    pub uncut_a : unmodified_sum n (uncut n d) m ≡ line_sum n d m
    uncut_a = omega (arith, uncut_b, line_split n (uncut n d) m, line_ext n (uncut n d).values d uncut_cell m hm)

  pub uncut_sound : (cap : List ℕ) → Sound n cap (uncut n d)
  uncut_sound cap = record {
    cells = uncut_lengths.0;
    flags = uncut_lengths.1;
    within = λ m hm. omega (arith, uncut_b m hm);
    closed = λ m hm f. absurd (omega (arith, uncut_flag m hm));
  }

-- ---- the end
-- how many lines have been cut
unfoldable pub cuts : (n : ℕ) (s : Cutting) → ℕ
cuts n s = sum_to (2 * n) (λ m. bit (ltb 0 (get_or s.done m 0)))

-- at most all of them
pub cuts_most : (n : ℕ) (s : Cutting) → cuts n s ≤ 2 * n
unfolding cuts
cuts_most n s = sum_one (2 * n) _ (λ m h. bit_most (ltb 0 (get_or s.done m 0)))

-- at the start none
pub cuts_none : (n : ℕ) (d : List ℕ) → cuts n (uncut n d) ≡ 0
unfolding cuts
cuts_none n d = sum_all_zero (2 * n) _ (λ m h. rw (uncut_flag n d m h) refl)

module _ (n : ℕ) (cap : List ℕ) where
  -- one line more has been cut
  pub cuts_more : (s : Cutting) (h : Sound n cap s) (ℓ : ℕ) → Smallest n cap s (2 * n) ℓ → cuts n (cut_line n cap s ℓ) ≡ cuts n s + 1
  unfolding cuts
  cuts_more s h ℓ γ =
      sum_bump (2 * n) ℓ 1 _ _ γ.line
      (rw (cut_flag n cap s h ℓ γ, over_uncut n cap s h ℓ γ.line γ.over) refl)
      (λ m hm ne. rw (flag_kept n cap s h ℓ γ m ne) refl)

  -- where all lines have been cut none exceeds
  all_cut : (s : Cutting) → Sound n cap s → 2 * n ≤ cuts n s → Quiet n cap s (2 * n)
  unfolding cuts
  all_cut s h all = record {
    under = λ m hm.
        h.closed m hm (ltb-true 0 (get_or s.done m 0) (bit_one (ltb 0 (get_or s.done m 0)) (sum_tight (2 * n) 1 (λ m. bit (ltb 0 (get_or s.done m 0))) (λ k p. bit_most (ltb 0 (get_or s.done k 0))) (omega arith) m hm)));
  }

  module _ (d : List ℕ) where
    -- the invariant after m steps
    pub steps_sound : (m : ℕ) → Sound n cap (steps n cap (uncut n d) m)
    steps_sound m = (steps_keep n cap (uncut n d) (λ s. Sound n cap s) (uncut_sound n d cap) (uncut_sound n d cap) (λ r ℓ h p γ. cut_sound n cap r h ℓ γ) m).0

    -- after m steps none exceeds, or m lines have been cut
    progress : (m : ℕ) → Quiet n cap (steps n cap (uncut n d) m) (2 * n) ⊎ (m ≤ cuts n (steps n cap (uncut n d) m))
    unfolding steps
    progress zero = inr (omega arith)
    progress (suc m) =
        by_lt (taken n cap (steps n cap (uncut n d) m) (2 * n)) (2 * n)
        (λ lt. ⊎_elim
        (λ q. absurd (omega (arith, q.under _ lt, (taken_is_smallest n cap (steps n cap (uncut n d) m) (steps_sound m) lt).over)))
        (λ (le : m ≤ cuts n (steps n cap (uncut n d) m)). inr (rw (step_cuts n cap (steps n cap (uncut n d) m) lt) (omega (arith, cuts_more (steps n cap (uncut n d) m) (steps_sound m) _ (taken_is_smallest n cap (steps n cap (uncut n d) m) (steps_sound m) lt)))))
        (progress m))
        (λ ge. inl (rw (step_still n cap (steps n cap (uncut n d) m) ge) (none_taken_none_over n cap (steps n cap (uncut n d) m) (steps_sound m) ge)))

    -- ---- what the fair rule keeps
    pub fair_length : length (fair_kept n cap d) ≡ n * n
    unfolding fair_kept
    fair_length = (steps_sound (2 * n)).cells

    -- no line is above its capacity
    pub fair_admissible : Admissible n cap (fair_kept n cap d)
    unfolding fair_kept
    fair_admissible = record { lines = ⊎_elim (λ q. q.under) (λ all. (all_cut (steps n cap (uncut n d) (2 * n)) (steps_sound (2 * n)) all).under) (progress (2 * n)) }

    -- no pair keeps more than it asks
    pub steps_below : (m i j : ℕ) → i < n → j < n → cell n (steps n cap (uncut n d) m).values i j ≤ cell n d i j
    steps_below m =
        (steps_keep n cap (uncut n d) (λ s. (i j : ℕ) → i < n → j < n → cell n s.values i j ≤ cell n d i j) (uncut_sound n d cap)
        (λ i j hi hj. omega (arith, uncut_cell n d i j hi hj))
        (λ r ℓ h p γ i j hi hj. omega (arith, p i j hi hj, cell_shrinks n cap r h ℓ γ i j hi hj))
        m).1

    pub fair_below : (i j : ℕ) → i < n → j < n → cell n (fair_kept n cap d) i j ≤ cell n d i j
    unfolding fair_kept
    fair_below = steps_below (2 * n)

    -- no line grows
    pub steps_shrink : (m ℓ : ℕ) → ℓ < 2 * n → line_sum n (steps n cap (uncut n d) m).values ℓ ≤ line_sum n d ℓ
    steps_shrink m = line_mono n (steps n cap (uncut n d) m).values d (steps_below m)
