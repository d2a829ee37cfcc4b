-- A line ℓ on the way of being cut: its first t pairs have their new values and the lines that cross there their new sums, everything else is as before. At the end the tables hold
-- the cut state and its sums. By the laws of one cell and of one line. Assumes nothing.
use Prim.Native.Nat.{ℕ, ◌+◌, ◌-◌, ◌*◌, ◌/◌, ◌≤◌, ◌<◌}
use native.Mathlib.Omega.{arith}
use mathlib.Core.Path.{◌≡◌, refl, sym, ap, ap₂, ◌∙◌}
use mathlib.Core.Logic.{⊎_elim}
use mathlib.Core.List.{List}
use lib.ListN.{length, get_or, set, length-set}
use lib.Seq.{get_or-set_same, get_or-set_other}
use lib.Dec.{ltb}
use borrow.Author.Tests.{lt-ltb, ne_eqb}
use Rattle.sums.specs.Sums.{sum_to}
use Rattle.sums.specs.Tables.{cell}
use Rattle.sums.proofs.Cases.{by_eq, by_lt}
use Rattle.sums.proofs.Sums.{sum_more, sum_none, sum_part}
use Rattle.sums.proofs.Tables.{set_here, square_ext, cell_lt}
use Rattle.star.specs.Lines.{source_on, destination_on, crossing, on_line}
use Rattle.star.proofs.LineLaws.{source_lt, destination_lt, on_line_most}
use Rattle.fair.specs.Fair.{Cutting, modified, modified_sum, unmodified_sum, numerator, cut_line}
use Rattle.fair.specs.Cuts.{cutting, CellCut, CanCutCell, CanCutLine, LineCut}
use Rattle.star.proofs.CrossingLaws.{source_row, source_column, destination_row, destination_column, crossing_lt, crossing_other, crossing_once, Meet, Beside, two_lines}
use Rattle.sums.proofs.Fractions.{floor_none, floors_most}
use Rattle.fair.proofs.LineCuts.{loose, loose_on, fixed_on, cell_split, modified_on, unmodified_is, loose_most, value_on_cut, value_off_cut, own_unmodified, own_modified, crossed_unmodified, crossed_modified, beside_unmodified, beside_modified, on_own}
use Rattle.sums.proofs.Tables.{set_else}
use Rattle.fair.proofs.Steps.{over_proper, over_uncut, cut_sound}

pub record Partway (n : ℕ) (s : Cutting) (a b : List ℕ) (ℓ p q : ℕ) (v' a' b' : List ℕ) (t sum : ℕ) : Type 0 where
  pub lengths : (length v' ≡ length s.values) × ((length a' ≡ length a) × (length b' ≡ length b))
  pub here : (u : ℕ) → u < t → on_line n v' ℓ u ≡ fixed_on n s ℓ u + loose_on n s ℓ u * p / q
  pub rest : (i j : ℕ) → i < n → j < n → ((u : ℕ) → u < t → i ≡ source_on n ℓ u → j ≡ destination_on n ℓ u → ⊥) → cell n v' i j ≡ cell n s.values i j
  pub less : (u : ℕ) → u < t → get_or a' (crossing n ℓ u) 0 + loose_on n s ℓ u ≡ get_or a (crossing n ℓ u) 0
  pub more : (u : ℕ) → u < t → get_or b' (crossing n ℓ u) 0 ≡ get_or b (crossing n ℓ u) 0 + loose_on n s ℓ u * p / q
  pub beside : (m : ℕ) → ((u : ℕ) → u < t → crossing n ℓ u ≡ m → ⊥) → (get_or a' m 0 ≡ get_or a m 0) × (get_or b' m 0 ≡ get_or b m 0)
  pub total : sum ≡ sum_to t (λ u. loose_on n s ℓ u * p / q)

-- a pair of a line is its t-th for one t
line_once : (n ℓ t u : ℕ) → source_on n ℓ t ≡ source_on n ℓ u → destination_on n ℓ t ≡ destination_on n ℓ u → t ≡ u
line_once n ℓ t u es ed =
    by_lt ℓ n
    (λ h. omega (arith, destination_row n ℓ t h, destination_row n ℓ u h))
    (λ h. omega (arith, source_column n ℓ t h, source_column n ℓ u h))

module _ (n : ℕ) (s : Cutting) (ℓ : ℕ) (uncut : get_or s.done ℓ 0 ≡ 0) (t : ℕ) where
  mark : modified n s (source_on n ℓ t) (destination_on n ℓ t) ≡ ltb 0 (get_or s.done (crossing n ℓ t) 0)
  mark = modified_on n s ℓ t ∙ rw uncut refl

  -- the line that crosses has been cut: the cell is modified
  module _ (cut : 0 < get_or s.done (crossing n ℓ t) 0) where
    pub closed_loose : loose_on n s ℓ t ≡ 0
    unfolding loose
    closed_loose = rw (mark, lt-ltb 0 (get_or s.done (crossing n ℓ t) 0) cut) refl

    pub closed_fixed : fixed_on n s ℓ t ≡ on_line n s.values ℓ t
    unfolding on_line
    closed_fixed = omega (arith, closed_loose, cell_split n s (source_on n ℓ t) (destination_on n ℓ t))

  -- it has not: the cell is unmodified
  module _ (free : get_or s.done (crossing n ℓ t) 0 ≡ 0) where
    pub open_loose : loose_on n s ℓ t ≡ on_line n s.values ℓ t
    unfolding loose on_line
    open_loose = rw (mark, free) refl

    pub open_fixed : fixed_on n s ℓ t ≡ 0
    unfolding on_line
    open_fixed = let e : loose_on n s ℓ t ≡ cell n s.values (source_on n ℓ t) (destination_on n ℓ t) = open_loose in
        omega (arith, cell_split n s (source_on n ℓ t) (destination_on n ℓ t))

pub partway_start : (n : ℕ) (s : Cutting) (a b : List ℕ) (ℓ p q : ℕ) → Partway n s a b ℓ p q s.values a b 0 0
partway_start n s a b ℓ p q = record {
  lengths = (refl, (refl, refl));
  here = λ u h. absurd (omega arith);
  rest = λ i j hi hj h. refl;
  less = λ u h. absurd (omega arith);
  more = λ u h. absurd (omega arith);
  beside = λ m h. (refl, refl);
  total = sym (sum_none _);
}

module _ {n : ℕ} {s : Cutting} {a b : List ℕ} {ℓ p q : ℕ} {v' a' b' : List ℕ} {t sum : ℕ} (P : Partway n s a b ℓ p q v' a' b' t sum) (hl : ℓ < 2 * n) (ht : t < n) where
  -- at the next pair all is as before
  pub next_value : on_line n v' ℓ t ≡ on_line n s.values ℓ t
  unfolding on_line
  next_value = P.rest _ _ (source_lt n ℓ t hl ht) (destination_lt n ℓ t hl ht) (λ u h es ed. let e : t ≡ u = line_once n ℓ t u es ed in omega arith)

  pub next_sums : (get_or a' (crossing n ℓ t) 0 ≡ get_or a (crossing n ℓ t) 0) × (get_or b' (crossing n ℓ t) 0 ≡ get_or b (crossing n ℓ t) 0)
  next_sums = P.beside (crossing n ℓ t) (λ u h e. let q : u ≡ t = crossing_once n ℓ u t e in omega arith)

  module _ (uncut : get_or s.done ℓ 0 ≡ 0) where
    -- a modified cell is other_line_passes
    pub partway_pass : 0 < get_or s.done (crossing n ℓ t) 0 → Partway n s a b ℓ p q v' a' b' (t + 1) sum
    partway_pass cut =
        let none : loose_on n s ℓ t ≡ 0 = closed_loose n s ℓ uncut t cut in
        let zero : loose_on n s ℓ t * p / q ≡ 0 = rw none (floor_none p q) in
        record {
          lengths = P.lengths;
          here = λ u h. by_eq u t (λ e. rw e (omega (arith, next_value, closed_fixed n s ℓ uncut t cut))) (λ ne. P.here u (omega arith));
          rest = λ i j hi hj no_one. P.rest i j hi hj (λ u h. no_one u (omega arith));
          less = λ u h. by_eq u t (λ e. rw e (omega (arith, next_sums))) (λ ne. P.less u (omega arith));
          more = λ u h. by_eq u t (λ e. rw e (omega (arith, next_sums))) (λ ne. P.more u (omega arith));
          beside = λ m no_one. P.beside m (λ u h. no_one u (omega arith));
          total = omega (arith, P.total, sum_more t (λ u. loose_on n s ℓ u * p / q));
        }

    -- an unmodified cell is cut
    module _ (free : get_or s.done (crossing n ℓ t) 0 ≡ 0) {v'' a'' b'' : List ℕ} {r : ℕ} (C : CellCut n v' a' b' ℓ t p q v'' a'' b'' r) where
      now : r ≡ loose_on n s ℓ t * p / q
      now = C.share ∙ ap (λ x. x * p / q) (next_value ∙ sym (open_loose n s ℓ uncut t free))

      cell_kept : (i j : ℕ) → j < n → (i ≡ source_on n ℓ t → j ≡ destination_on n ℓ t → ⊥) → cell n v'' i j ≡ cell n v' i j
      cell_kept i j hj ne = rw C.value (set_else n v' (source_on n ℓ t) (destination_on n ℓ t) r (destination_lt n ℓ t hl ht) i j hj ne)

      a_kept : (m : ℕ) → (m ≡ crossing n ℓ t → ⊥) → get_or a'' m 0 ≡ get_or a' m 0
      a_kept m ne = rw C.less (get_or-set_other a' (crossing n ℓ t) m (get_or a' (crossing n ℓ t) 0 - on_line n v' ℓ t) 0 ne)

      b_kept : (m : ℕ) → (m ≡ crossing n ℓ t → ⊥) → get_or b'' m 0 ≡ get_or b' m 0
      b_kept m ne = rw C.more (get_or-set_other b' (crossing n ℓ t) m (get_or b' (crossing n ℓ t) 0 + r) 0 ne)

      lengths_kept : (length v'' ≡ length v') × ((length a'' ≡ length a') × (length b'' ≡ length b'))
      lengths_kept = (ap length C.value ∙ simp length-set, (ap length C.less ∙ simp length-set, ap length C.more ∙ simp length-set))

      module _ (fits : n * n ≤ length v') (fa : 2 * n ≤ length a') (fb : 2 * n ≤ length b') (part : on_line n v' ℓ t ≤ get_or a' (crossing n ℓ t) 0) where
        value_now : on_line n v'' ℓ t ≡ r
        unfolding on_line
        value_now = rw C.value (set_here n v' (source_on n ℓ t) (destination_on n ℓ t) r (destination_lt n ℓ t hl ht) (omega (arith, cell_lt n (source_on n ℓ t) (destination_on n ℓ t) (source_lt n ℓ t hl ht) (destination_lt n ℓ t hl ht))))

        a_now : get_or a'' (crossing n ℓ t) 0 + on_line n v' ℓ t ≡ get_or a' (crossing n ℓ t) 0
        a_now = rw (C.less, get_or-set_same a' (crossing n ℓ t) (get_or a' (crossing n ℓ t) 0 - on_line n v' ℓ t) 0 (omega (arith, crossing_lt n ℓ t hl ht))) (omega arith)

        b_now : get_or b'' (crossing n ℓ t) 0 ≡ get_or b' (crossing n ℓ t) 0 + r
        b_now = rw C.more (get_or-set_same b' (crossing n ℓ t) (get_or b' (crossing n ℓ t) 0 + r) 0 (omega (arith, crossing_lt n ℓ t hl ht)))

        here_kept : (u : ℕ) → u < n → (u ≡ t → ⊥) → on_line n v'' ℓ u ≡ on_line n v' ℓ u
        unfolding on_line
        here_kept u h ne = cell_kept (source_on n ℓ u) (destination_on n ℓ u) (destination_lt n ℓ u hl h) (λ es ed. ne (line_once n ℓ u t es ed))

        pub partway_cut : Partway n s a b ℓ p q v'' a'' b'' (t + 1) (sum + r)
        partway_cut = record {
          lengths = (lengths_kept.0 ∙ P.lengths.0, (lengths_kept.1.0 ∙ P.lengths.1.0, lengths_kept.1.1 ∙ P.lengths.1.1));
          here = λ u h. by_eq u t (λ e. rw e (omega (arith, value_now, now, open_fixed n s ℓ uncut t free))) (λ ne. here_kept u (omega arith) ne ∙ P.here u (omega arith));
          rest = λ i j hi hj no_one. cell_kept i j hj (no_one t (omega arith)) ∙ P.rest i j hi hj (λ u h. no_one u (omega arith));
          less = λ u h. by_eq u t
              (λ e. rw e (omega (arith, a_now, next_sums, next_value, open_loose n s ℓ uncut t free)))
              (λ ne. omega (arith, a_kept (crossing n ℓ u) (λ e. ne (crossing_once n ℓ u t e)), P.less u (omega arith)));
          more = λ u h. by_eq u t
              (λ e. rw e (omega (arith, b_now, next_sums, now)))
              (λ ne. omega (arith, b_kept (crossing n ℓ u) (λ e. ne (crossing_once n ℓ u t e)), P.more u (omega arith)));
          beside = λ m no_one.
              let apart : m ≡ crossing n ℓ t → ⊥ = λ e. no_one t (omega arith) (sym e) in
              let was = P.beside m (λ u h. no_one u (omega arith)) in
              (a_kept m apart ∙ was.0, b_kept m apart ∙ was.1);
          total = omega (arith, P.total, now, sum_more t (λ u. loose_on n s ℓ u * p / q));
        }

-- an unmodified cell of a line is at most the sum of those of the line that crosses there
loose_crossing : (n : ℕ) (s : Cutting) (ℓ t : ℕ) → ℓ < 2 * n → t < n → loose_on n s ℓ t ≤ unmodified_sum n s (crossing n ℓ t)
loose_crossing n s ℓ t hl ht =
    ⊎_elim
    (λ (x : Meet n ℓ (crossing n ℓ t)).
    let w : x.w ≡ t = crossing_once n ℓ x.w t x.there in
    omega (arith, loose_most n s (crossing n ℓ t) x.y x.within.1, ap₂ (loose n s) x.source x.destination, ap (loose_on n s ℓ) w))
    (λ (x : Beside n ℓ (crossing n ℓ t)). absurd (x.there t ht refl))
    (two_lines n ℓ (crossing n ℓ t) hl (crossing_lt n ℓ t hl ht))

-- ---- the whole line
module _ (n : ℕ) (cap kept done a b : List ℕ) (ℓ : ℕ) (h : CanCutLine n cap kept done a b ℓ) where
  pub line_lt : ℓ < 2 * n
  line_lt = h.smallest.line

  pub line_uncut : get_or done ℓ 0 ≡ 0
  line_uncut = over_uncut n cap (cutting kept done) h.sound ℓ h.smallest.line h.smallest.over

  pub b_within : (m : ℕ) → m < 2 * n → get_or b m 0 ≤ get_or cap m 0
  b_within m hm = omega (arith, h.counted.modified m hm, h.sound.within m hm)

  p_is : get_or cap ℓ 0 - get_or b ℓ 0 ≡ numerator n cap (cutting kept done) ℓ
  unfolding numerator
  p_is = omega (arith, h.counted.modified ℓ line_lt)

  q_is : get_or a ℓ 0 ≡ unmodified_sum n (cutting kept done) ℓ
  q_is = h.counted.unmodified ℓ line_lt

  proper : get_or cap ℓ 0 - get_or b ℓ 0 < get_or a ℓ 0
  proper = rw (p_is, q_is) (over_proper n cap (cutting kept done) h.sound ℓ h.smallest.line h.smallest.over)

  module _ {v' a' b' : List ℕ} {t sum : ℕ} (P : Partway n (cutting kept done) a b ℓ (get_or cap ℓ 0 - get_or b ℓ 0) (get_or a ℓ 0) v' a' b' t sum) where
    -- the new cells sum to at most p
    pub sum_fits : t ≤ n → sum ≤ get_or cap ℓ 0 - get_or b ℓ 0
    sum_fits le =
        omega (
          arith,
          P.total,
          sum_part t n (λ u. loose_on n (cutting kept done) ℓ u * (get_or cap ℓ 0 - get_or b ℓ 0) / get_or a ℓ 0) le,
          floors_most n (get_or cap ℓ 0 - get_or b ℓ 0) (get_or a ℓ 0) (loose_on n (cutting kept done) ℓ) (omega (arith, proper)) (sym (unmodified_is n (cutting kept done) ℓ) ∙ sym q_is),
        )

    -- b of the line itself is as it was
    pub own_b : t ≤ n → get_or b' ℓ 0 ≡ get_or b ℓ 0
    own_b le = (P.beside ℓ (λ u hu e. crossing_other n ℓ u (omega arith) e)).1

    pub can_cut_cell : t < n → get_or done (crossing n ℓ t) 0 ≡ 0 → CanCutCell n v' a' b' ℓ t (get_or cap ℓ 0 - get_or b ℓ 0) (get_or a ℓ 0)
    can_cut_cell ht free =
        let cl : crossing n ℓ t < 2 * n = crossing_lt n ℓ t line_lt ht in
        record {
          square = record { nodes = h.nodes; cells = omega (arith, P.lengths, h.sound.cells) };
          line = (line_lt, ht);
          fraction = (omega (arith, h.capacities.most ℓ line_lt), proper);
          demand = omega (arith, next_value P line_lt ht, on_line_most n kept ℓ t h.demands line_lt ht);
          part = omega (
            arith,
            next_value P line_lt ht,
            next_sums P line_lt ht,
            open_loose n (cutting kept done) ℓ line_uncut t free,
            loose_crossing n (cutting kept done) ℓ t line_lt ht,
            h.counted.unmodified (crossing n ℓ t) cl,
          );
          most = omega (arith, next_sums P line_lt ht, b_within (crossing n ℓ t) cl, h.capacities.most (crossing n ℓ t) cl);
        }

    pub partway_turn : {v'' a'' b'' : List ℕ} {r : ℕ} → t < n → get_or done (crossing n ℓ t) 0 ≡ 0 →
        CellCut n v' a' b' ℓ t (get_or cap ℓ 0 - get_or b ℓ 0) (get_or a ℓ 0) v'' a'' b'' r →
        Partway n (cutting kept done) a b ℓ (get_or cap ℓ 0 - get_or b ℓ 0) (get_or a ℓ 0) v'' a'' b'' (t + 1) (sum + r)
    partway_turn ht free C =
        let can = can_cut_cell ht free in
        partway_cut P line_lt ht line_uncut free C can.square.cells (omega (arith, P.lengths, h.counted.room)) (omega (arith, P.lengths, h.counted.room)) can.part

  module _ {v' a' b' : List ℕ} {sum : ℕ} (Q : Partway n (cutting kept done) a b ℓ (get_or cap ℓ 0 - get_or b ℓ 0) (get_or a ℓ 0) v' a' b' n sum) where
    P : Partway n (cutting kept done) a b ℓ (numerator n cap (cutting kept done) ℓ) (unmodified_sum n (cutting kept done) ℓ) v' a' b' n sum
    P = rw (p_is, q_is) at Q

    at : ℓ < length done
    at = omega (arith, h.sound.flags, line_lt)

    value_on : (u : ℕ) → u < n → cell n v' (source_on n ℓ u) (destination_on n ℓ u) ≡ cell n (cut_line n cap (cutting kept done) ℓ).values (source_on n ℓ u) (destination_on n ℓ u)
    unfolding on_line
    value_on u hu = P.here u hu ∙ sym (value_on_cut n cap (cutting kept done) ℓ at (source_on n ℓ u) (destination_on n ℓ u) (source_lt n ℓ u line_lt hu) (destination_lt n ℓ u line_lt hu) (on_own n cap (cutting kept done) ℓ at u))

    same : (i j : ℕ) → i < n → j < n → cell n v' i j ≡ cell n (cut_line n cap (cutting kept done) ℓ).values i j
    same i j hi hj =
        by_eq i ℓ
        (λ e. let lr : ℓ < n = omega arith in
        rw e (rw (source_row n ℓ j lr, destination_row n ℓ j lr) at (value_on j hj)))
        (λ ni. by_eq (n + j) ℓ
        (λ e. let lc : n ≤ ℓ = omega arith in let d : ℓ - n ≡ j = omega arith in
        rw (source_column n ℓ i lc, destination_column n ℓ i lc, d) at (value_on i hi))
        (λ nj.
        P.rest i j hi hj (λ u hu es ed. by_lt ℓ n (λ lr. omega (arith, source_row n ℓ u lr, ni)) (λ lc. omega (arith, destination_column n ℓ u lc, nj)))
        ∙ sym (value_off_cut n cap (cutting kept done) ℓ at i j hi hj (rw (ne_eqb i ℓ ni, ne_eqb (n + j) ℓ nj) refl))))

    state : cutting v' (set done ℓ 1) ≡ cut_line n cap (cutting kept done) ℓ
    unfolding cut_line
    state =
        let e : v' ≡ (cut_line n cap (cutting kept done) ℓ).values = square_ext n v' _ (P.lengths.0 ∙ h.sound.cells) (cut_sound n cap (cutting kept done) h.sound ℓ h.smallest).cells same in
        ap (λ v. cutting v (set done ℓ 1)) e

    other_line : (m : ℕ) → m < 2 * n → (m ≡ ℓ → ⊥) → (get_or a' m 0 ≡ unmodified_sum n (cut_line n cap (cutting kept done) ℓ) m) × (get_or b' m 0 ≡ modified_sum n (cut_line n cap (cutting kept done) ℓ) m)
    other_line m hm ne =
        ⊎_elim
        (λ (x : Meet n ℓ m).
        let less = rw x.there at (P.less x.w x.within.0) in
        let more = rw x.there at (P.more x.w x.within.0) in (
          omega (arith, less, h.counted.unmodified m hm, crossed_unmodified n cap (cutting kept done) ℓ at m hm ne x),
          omega (arith, more, h.counted.modified m hm, crossed_modified n cap (cutting kept done) ℓ at m hm ne x),
        ))
        (λ (x : Beside n ℓ m).
        let was = P.beside m (λ u hu. x.there u hu) in (
          omega (arith, was, h.counted.unmodified m hm, beside_unmodified n cap (cutting kept done) ℓ at m hm ne x),
          omega (arith, was, h.counted.modified m hm, beside_modified n cap (cutting kept done) ℓ at m hm ne x),
        ))
        (two_lines n ℓ m line_lt hm)

    own_b_after : get_or b' ℓ 0 + sum ≡ modified_sum n (cut_line n cap (cutting kept done) ℓ) ℓ
    own_b_after = omega (arith, own_b Q (omega arith), P.total, h.counted.modified ℓ line_lt, own_modified n cap (cutting kept done) ℓ at line_lt)

    -- when all pairs are done the line is cut
    pub line_cut : LineCut n cap kept done a b ℓ v' (set done ℓ 1) (set a' ℓ 0) (set b' ℓ (get_or b' ℓ 0 + sum))
    line_cut = record {
      state = state;
      counted = rw state (record {
        room = (rw (length-set a' ℓ 0) (omega (arith, P.lengths, h.counted.room)), rw (length-set b' ℓ (get_or b' ℓ 0 + sum)) (omega (arith, P.lengths, h.counted.room)));
        unmodified = λ m hm. by_eq m ℓ
            (λ e. rw (e, get_or-set_same a' ℓ 0 0 (omega (arith, P.lengths, h.counted.room, line_lt))) (sym (own_unmodified n cap (cutting kept done) ℓ at line_lt)))
            (λ ne. get_or-set_other a' ℓ m 0 0 ne ∙ (other_line m hm ne).0);
        modified = λ m hm. by_eq m ℓ
            (λ e. rw (e, get_or-set_same b' ℓ (get_or b' ℓ 0 + sum) 0 (omega (arith, P.lengths, h.counted.room, line_lt))) own_b_after)
            (λ ne. get_or-set_other b' ℓ m (get_or b' ℓ 0 + sum) 0 ne ∙ (other_line m hm ne).1);
      });
    }
