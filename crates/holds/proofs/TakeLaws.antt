-- Taking slots from the pairs, one destination after the other: the lines lose as much, pairs that fall below the level are parted, and the free
-- nodes are those that were and those parted. The laws assume nothing.
use Prim.Native.Nat.{ℕ, ◌+◌, ◌-◌, ◌*◌, ◌≤◌, ◌<◌}
use native.Mathlib.Omega.{arith}
use mathlib.Core.Path.{◌≡◌, refl, sym, ap, ◌∙◌}
use mathlib.Core.List.{List}
use lib.ListN.{length, get_or, set, length-set}
use lib.Seq.{get_or-set_same, get_or-set_other}
use Rattle.sums.specs.Sums.{sum_to, hit}
use Rattle.sums.specs.Tables.{cell}
use Rattle.sums.proofs.Sums.{sum_ext, sum_add, sum_scale, sum_hit, hit_same, hit_other}
use Rattle.sums.proofs.Cases.{by_eq, by_lt}
use Rattle.sums.proofs.Tables.{cell_lt, set_here, set_row, set_col}
use Rattle.star.specs.Lines.{line_sum}
use Rattle.star.specs.Rooms.{Square}
use Rattle.star.proofs.LineLaws.{row_sum, column_sum}
use Rattle.nodes.specs.Sets.{member, With, Without}
use Rattle.arrays.proofs.Stores.{square_kept}
use Rattle.at_least.specs.AtLeast.{AtLeastIn, AtLeast}
use Rattle.cells.specs.Cells.{padded_in, kept_in, Took}
use Rattle.cells.proofs.CellLaws.{padded_length}
use Rattle.pairs.specs.declared.free.Free.{Free}
use Rattle.pairs.specs.Pairs.{allowed, partners, Paired, Unpaired, FreeNodes}
use Rattle.holds.specs.Holds.{Deducted}
use Rattle.holds.specs.Turns.{CanTake, Parted}

-- ---- lines
module _ {n : ℕ} {x y source : List ℕ} {h : ℕ} (d : Deducted n x y source h) where
  row_less : (i : ℕ) → i < n → partners n source i ≡ 1 → line_sum n y i + h ≡ line_sum n x i
  unfolding partners
  row_less i hi once =
      let one : h * sum_to n (λ j. hit (get_or source j 0) i) ≡ h = rw once (omega arith) in
      omega (
        arith,
        row_sum n x i hi,
        row_sum n y i hi,
        sum_ext n (λ j. cell n y i j + h * hit (get_or source j 0) i) (λ j. cell n x i j) (λ j hj. d.less i j hi hj),
        sum_add n (λ j. cell n y i j) (λ j. h * hit (get_or source j 0) i),
        sum_scale n h (λ j. hit (get_or source j 0) i),
        one,
      )

  column_less : (j : ℕ) → j < n → get_or source j 0 < n → line_sum n y (n + j) + h ≡ line_sum n x (n + j)
  column_less j hj lt =
      let one : h * sum_to n (λ i. hit (get_or source j 0) i) ≡ h = rw (sum_hit n (get_or source j 0) lt) (omega arith) in
      omega (
        arith,
        column_sum n x j,
        column_sum n y j,
        sum_ext n (λ i. cell n y i j + h * hit (get_or source j 0) i) (λ i. cell n x i j) (λ i hi. d.less i j hi hj),
        sum_add n (λ i. cell n y i j) (λ i. h * hit (get_or source j 0) i),
        sum_scale n h (λ i. hit (get_or source j 0) i),
        one,
      )

  pub line_less : ((i : ℕ) → i < n → partners n source i ≡ 1) → ((j : ℕ) → j < n → get_or source j 0 < n) → (ℓ : ℕ) → ℓ < 2 * n → line_sum n y ℓ + h ≡ line_sum n x ℓ
  line_less once full ℓ hl =
      by_lt ℓ n (λ lt. row_less ℓ lt (once ℓ lt))
      (λ le. let e : n + (ℓ - n) ≡ ℓ = omega arith in rw e at (column_less (ℓ - n) (omega arith) (full (ℓ - n) (omega arith))))

-- ---- one pair gets h less
module _ {n : ℕ} {y z : List ℕ} {i j h : ℕ} (square : Square n y) (hi : i < n) (hj : j < n) (took : Took n y z i j h) where
  took_here : cell n (padded_in z) i j ≡ cell n (padded_in y) i j - h
  took_here = rw took.padded (set_here n (padded_in y) i j (cell n (padded_in y) i j - h) hj (omega (arith, cell_lt n i j hi hj, square.cells, padded_length y)))

  took_row : (a u : ℕ) → u < n → (a ≡ i → ⊥) → cell n (padded_in z) a u ≡ cell n (padded_in y) a u
  took_row a u hu ne = rw took.padded (set_row n (padded_in y) i j (cell n (padded_in y) i j - h) hj a u hu ne)

  took_column : (a u : ℕ) → u < n → (u ≡ j → ⊥) → cell n (padded_in z) a u ≡ cell n (padded_in y) a u
  took_column a u hu ne = rw took.padded (set_col n (padded_in y) i j (cell n (padded_in y) i j - h) hj a u hu ne)

  took_most : (a u : ℕ) → u < n → cell n (padded_in z) a u ≤ cell n (padded_in y) a u
  took_most a u hu =
      by_eq a i
      (λ p. by_eq u j (λ q. rw (p, q) (omega (arith, took_here))) (λ ne. omega (arith, took_column a u hu ne)))
      (λ ne. omega (arith, took_row a u hu ne))

  -- the sets stay right where the pair still has the level ..
  level_kept : {may : List ℕ} {level : ℕ} → AtLeast n (padded_in y) level may → level ≤ cell n (padded_in z) i j → AtLeast n (padded_in z) level may
  level_kept m st = record {
    all = λ u hu. record {
      in' = λ a ha le. (m.all u hu).in' a ha (omega (arith, took_most a u hu));
      out = λ a ha e. by_eq a i
          (λ p. by_eq u j (λ q. rw (p, q) st) (λ ne. omega (arith, took_column a u hu ne, (m.all u hu).out a ha e)))
          (λ ne. omega (arith, took_row a u hu ne, (m.all u hu).out a ha e));
    };
  }

  -- .. and where it has not, and its source leaves the set
  level_without : {may : List ℕ} {level s : ℕ} → j < length may → AtLeast n (padded_in y) level may → cell n (padded_in z) i j < level → Without (get_or may j 0) i s
      → AtLeast n (padded_in z) level (set may j s)
  level_without {may} {level} {s} fits m weak w =
      let here : AtLeastIn n (padded_in z) level j s = record {
        in' = λ a ha le. by_eq a i
            (λ q. absurd (omega (arith, ap (λ (x : ℕ). cell n (padded_in z) x j) q)))
            (λ ne. w.other a ne ∙ (m.all j hj).in' a ha (omega (arith, took_row a j hj ne)));
        out = λ a ha e. by_eq a i
            (λ q. absurd (omega (arith, w.here, ap (λ (x : ℕ). member x s) q)))
            (λ ne. omega (arith, took_row a j hj ne, (m.all j hj).out a ha (sym (w.other a ne) ∙ e)));
      } in
      record {
        all = λ u hu. by_eq u j
            (λ q. rw q (rw (get_or-set_same may j s 0 fits) here))
            (λ ne. rw (get_or-set_other may j u s 0 ne) (record {
              in' = λ a ha le. (m.all u hu).in' a ha (omega (arith, took_column a u hu ne));
              out = λ a ha e. omega (arith, took_column a u hu ne, (m.all u hu).out a ha e);
            }));
      }

-- ---- a pair is parted
module _ {n : ℕ} {may source destination : List ℕ} {i j : ℕ} (p : Paired n may source destination) (hi : i < n) (hj : j < n) (ei : i ≡ get_or source j 0)
    (fits-source : j < length source) (fits-destination : i < length destination) where
  source_here : get_or (set source j n) j 0 ≡ n
  source_here = get_or-set_same source j n 0 fits-source

  source_else : (u : ℕ) → (u ≡ j → ⊥) → get_or (set source j n) u 0 ≡ get_or source u 0
  source_else u ne = get_or-set_other source j u n 0 ne

  destination_here : get_or (set destination i n) i 0 ≡ n
  destination_here = get_or-set_same destination i n 0 fits-destination

  destination_else : (a : ℕ) → (a ≡ i → ⊥) → get_or (set destination i n) a 0 ≡ get_or destination a 0
  destination_else a ne = get_or-set_other destination i a n 0 ne

  -- the pair's two ends know each other
  home : get_or destination i 0 ≡ j
  home = rw ei (p.back j hj (omega arith))

  part_paired : (s : ℕ) → Paired n (set may j s) (set source j n) (set destination i n)
  unfolding allowed
  part_paired s = record {
    source_most = λ u hu. by_eq u j (λ e. rw e (omega (arith, source_here))) (λ ne. omega (arith, source_else u ne, p.source_most u hu));
    destination_most = λ a ha. by_eq a i (λ e. rw e (omega (arith, destination_here))) (λ ne. omega (arith, destination_else a ne, p.destination_most a ha));
    back = λ u hu lt. by_eq u j
        (λ e. absurd (omega (arith, source_here, ap (λ (x : ℕ). get_or (set source j n) x 0) e)))
        (λ ne.
        let e = source_else u ne in
        let there : get_or destination (get_or source u 0) 0 ≡ u = p.back u hu (omega arith) in
        ap (λ (x : ℕ). get_or (set destination i n) x 0) e
        ∙ destination_else (get_or source u 0) (λ q. ne (sym there ∙ ap (λ (x : ℕ). get_or destination x 0) q ∙ home))
        ∙ there);
    forth = λ a ha lt. by_eq a i
        (λ e. absurd (omega (arith, destination_here, ap (λ (x : ℕ). get_or (set destination i n) x 0) e)))
        (λ ne.
        let e = destination_else a ne in
        let there : get_or source (get_or destination a 0) 0 ≡ a = p.forth a ha (omega arith) in
        ap (λ (x : ℕ). get_or (set source j n) x 0) e
        ∙ source_else (get_or destination a 0) (λ q. ne (sym there ∙ ap (λ (x : ℕ). get_or source x 0) q ∙ sym ei))
        ∙ there);
    allows = λ u hu lt. by_eq u j
        (λ e. absurd (omega (arith, source_here, ap (λ (x : ℕ). get_or (set source j n) x 0) e)))
        (λ ne.
        let e = source_else u ne in
        rw e (rw (get_or-set_other may j u s 0 ne) (p.allows u hu (omega arith))));
  }

-- one node more is free
unpaired_more : {n : ℕ} {x : List ℕ} {s k t : ℕ} → k < length x → Unpaired n x s → With s k t → Unpaired n (set x k n) t
unpaired_more {n} {x} {s} {k} lt p w = record {
  in' = λ a ha le. by_eq a k (λ q. rw q w.here) (λ ne. w.other a ne ∙ p.in' a ha (omega (arith, get_or-set_other x k a n 0 ne)));
  out = λ a ha e. by_eq a k
      (λ q. rw q (omega (arith, get_or-set_same x k n 0 lt)))
      (λ ne. omega (arith, get_or-set_other x k a n 0 ne, p.out a ha (sym (w.other a ne) ∙ e)));
}

-- ---- h is taken from the pairs of the destinations below j
pub record Taking (n : ℕ) (table0 may0 source0 destination0 table may source destination : List ℕ) (level h sources destinations j : ℕ) : Type 0 where
  pub upto : j ≤ n
  pub table_len : length table ≡ length table0
  pub may_len : length may ≡ length may0
  pub source_len : length source ≡ length source0
  pub destination_len : length destination ≡ length destination0
  pub less : (i u : ℕ) → i < n → u < j → cell n (padded_in table) i u + h * hit (get_or source0 u 0) i ≡ cell n (padded_in table0) i u
  pub rest : (i u : ℕ) → i < n → u < n → j ≤ u → cell n (padded_in table) i u ≡ cell n (padded_in table0) i u
  pub ahead : (u : ℕ) → j ≤ u → get_or source u 0 ≡ get_or source0 u 0
  pub kept : kept_in table ≡ kept_in table0
  pub right : AtLeast n (padded_in table) level may
  pub paired : Paired n may source destination
  pub lone : FreeNodes n source destination sources destinations

pub take_start : {n : ℕ} {table may source destination : List ℕ} {level h : ℕ} {free : Free} → CanTake n table may source destination level h free
    → Taking n table may source destination table may source destination level h free.sources free.destinations 0
take_start c = record {
  upto = omega arith;
  table_len = refl;
  may_len = refl;
  source_len = refl;
  destination_len = refl;
  less = λ i u hi lt. absurd (omega arith);
  rest = λ i u hi hu le. refl;
  ahead = λ u le. refl;
  kept = refl;
  right = c.standing.right;
  paired = c.standing.paired;
  lone = c.standing.lone;
}

module _ {n : ℕ} {table0 may0 source0 destination0 table may source destination : List ℕ} {level h sources destinations j : ℕ} {free : Free}
    (c : CanTake n table0 may0 source0 destination0 level h free)
    (g : Taking n table0 may0 source0 destination0 table may source destination level h sources destinations j) (hj : j < n)
    {i : ℕ} (ei : i ≡ get_or source j 0) where
  was : i ≡ get_or source0 j 0
  was = ei ∙ g.ahead j (omega arith)

  pub take_in : i < n
  take_in = omega (arith, was, c.full.all j hj)

  pub take_square : Square n table
  take_square = square_kept table0 table g.table_len c.standing.table_room

  pub take_enough : h ≤ cell n (padded_in table) i j
  take_enough = rw (g.rest i j take_in hj (omega arith)) (rw was (c.enough j hj))

  module _ {z : List ℕ} (ez : length z ≡ length table) (took : Took n table z i j h) where
    pub take_square_2 : Square n z
    take_square_2 = square_kept table z ez take_square

    less_more : (a u : ℕ) → a < n → u < j + 1 → cell n (padded_in z) a u + h * hit (get_or source0 u 0) a ≡ cell n (padded_in table0) a u
    less_more a u ha hu =
        by_eq u j
        (λ e. by_eq a i
        (λ q.
        let o : hit (get_or source0 u 0) a ≡ 1 = hit_same (ap (λ (k : ℕ). get_or source0 k 0) e ∙ sym was ∙ sym q) in
        rw o (rw (q, e) (omega (arith, took_here take_square take_in hj took, take_enough, g.rest i j take_in hj (omega arith)))))
        (λ nq.
        let o : hit (get_or source0 u 0) a ≡ 0 = hit_other (λ r. nq (sym r ∙ ap (λ (k : ℕ). get_or source0 k 0) e ∙ sym was)) in
        rw o (omega (arith, took_row take_square take_in hj took a u (omega arith) nq, g.rest a u ha (omega arith) (omega arith)))))
        (λ ne. rw (took_column take_square take_in hj took a u (omega arith) ne) (g.less a u ha (omega arith)))

    rest_more : (a u : ℕ) → a < n → u < n → j + 1 ≤ u → cell n (padded_in z) a u ≡ cell n (padded_in table0) a u
    rest_more a u ha hu lo = took_column take_square take_in hj took a u hu (λ e. omega arith) ∙ g.rest a u ha hu (omega arith)

    pub take_skip : level ≤ cell n (padded_in z) i j → Taking n table0 may0 source0 destination0 z may source destination level h sources destinations (j + 1)
    take_skip st = record {
      upto = omega arith;
      table_len = ez ∙ g.table_len;
      may_len = g.may_len;
      source_len = g.source_len;
      destination_len = g.destination_len;
      less = less_more;
      rest = rest_more;
      ahead = λ u le. g.ahead u (omega arith);
      kept = took.kept ∙ g.kept;
      right = level_kept take_square take_in hj took g.right st;
      paired = g.paired;
      lone = g.lone;
    }

    pub take_part : cell n (padded_in z) i j < level → {heard s more-sources more-destinations : ℕ} → heard ≡ get_or may j 0 → Without heard i s
        → With sources i more-sources → With destinations j more-destinations
        → Taking n table0 may0 source0 destination0 z (set may j s) (set source j n) (set destination i n) level h more-sources more-destinations (j + 1)
    take_part weak {heard} {s} eh w ws wd =
        let fits-may : j < length may = omega (arith, g.may_len, c.standing.rooms.mays) in
        let fits-source : j < length source = omega (arith, g.source_len, c.standing.rooms.sources) in
        let fits-destination : i < length destination = omega (arith, g.destination_len, c.standing.rooms.destinations, take_in) in
        record {
          upto = omega arith;
          table_len = ez ∙ g.table_len;
          may_len = length-set may j s ∙ g.may_len;
          source_len = length-set source j n ∙ g.source_len;
          destination_len = length-set destination i n ∙ g.destination_len;
          less = less_more;
          rest = rest_more;
          ahead = λ u le. get_or-set_other source j u n 0 (λ e. omega arith) ∙ g.ahead u (omega arith);
          kept = took.kept ∙ g.kept;
          right = level_without take_square take_in hj took fits-may g.right weak (rw eh at w);
          paired = part_paired g.paired take_in hj ei fits-source fits-destination s;
          lone = record {
            no_destination = unpaired_more fits-destination g.lone.no_destination ws;
            no_source = unpaired_more fits-source g.lone.no_source wd;
          };
        }

pub take_end : {n : ℕ} {table0 may0 source0 destination0 table may source destination : List ℕ} {level h j : ℕ} {free free' : Free}
    → CanTake n table0 may0 source0 destination0 level h free
    → Taking n table0 may0 source0 destination0 table may source destination level h free'.sources free'.destinations j → n ≤ j
    → Parted n table0 source0 table may source destination level h free'
take_end {table0 = table0} {table = table} c g le = record {
  deducts = record { less = record { less = λ i u hi hu. g.less i u hi (omega arith) }; kept = g.kept };
  standing = record {
    table_room = square_kept table0 table g.table_len c.standing.table_room;
    rooms = record {
      nodes = c.standing.rooms.nodes;
      mays = omega (arith, g.may_len, c.standing.rooms.mays);
      sources = omega (arith, g.source_len, c.standing.rooms.sources);
      destinations = omega (arith, g.destination_len, c.standing.rooms.destinations);
    };
    right = g.right;
    paired = g.paired;
    lone = g.lone;
    some = c.standing.some;
    most = c.standing.most;
  };
}
