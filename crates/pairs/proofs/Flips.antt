-- Moving along a way. With source i in hand all pairs stand but its own; the destinations of no higher rank than the one it moves to
-- are as they were at the start, so the way goes on; and each step leaves one destination fewer as it was. The laws assume nothing.
use mathlib.Core.Path.{◌≡◌, sym, ap, ◌∙◌}
use mathlib.Core.List.{List}
use Prim.Native.Nat.{ℕ, ◌≤◌, ◌<◌}
use native.Mathlib.Omega.{arith}
use lib.ListN.{length, get_or, set, length-set}
use lib.Seq.{get_or-set_same, get_or-set_other}
use Rattle.sums.specs.Sums.{sum_to, hit}
use Rattle.sums.proofs.Sums.{sum_update, hit_same, hit_other}
use Rattle.sums.proofs.Cases.{by_eq}
use Rattle.pairs.specs.Pairs.{allowed}
use Rattle.pairs.specs.Ways.{Hop, CanFlip, Flipped}

-- source i is in hand, and j is the destination last changed
pub record Going (n : ℕ) (may source0 destination0 source destination next : List ℕ) (rank : ℕ → ℕ) (r i j : ℕ) : Type 0 where
  pub source_len : length source ≡ length source0
  pub destination_len : length destination ≡ length destination0
  pub within : i ≤ n
  pub source_most : (u : ℕ) → u < n → get_or source u 0 ≤ n
  pub destination_most : (a : ℕ) → a < n → get_or destination a 0 ≤ n
  pub back : (u : ℕ) → u < n → get_or source u 0 < n → get_or destination (get_or source u 0) 0 ≡ u
  pub forth : (a : ℕ) → a < n → (a ≡ i → ⊥) → get_or destination a 0 < n → get_or source (get_or destination a 0) 0 ≡ a
  pub allows : (u : ℕ) → u < n → get_or source u 0 < n → allowed may (get_or source u 0) u ≡ 1
  pub lone : i < n → (u : ℕ) → u < n → get_or source u 0 ≡ i → ⊥
  pub hop : i < n → Hop n may next rank i
  pub low : i < n → (u : ℕ) → u < n → rank u ≤ rank (get_or next i 0) → get_or source u 0 ≡ get_or source0 u 0
  pub stays : (u : ℕ) → u < n → get_or source0 u 0 < n → get_or source u 0 < n
  pub frees : (u : ℕ) → u < n → n ≤ get_or source0 u 0 → (u ≡ j → i < n) → n ≤ get_or source u 0
  pub stored : j < n → get_or source j 0 < n
  pub ended : n ≤ i → (j < n) × (n ≤ get_or source0 j 0)
  pub moved : (a : ℕ) → a < n → get_or destination0 a 0 < n → get_or destination a 0 < n
  pub others : (a : ℕ) → a < n → n ≤ get_or destination0 a 0 → (a ≡ r → ⊥) → n ≤ get_or destination a 0
  pub hand : i < n → n ≤ get_or destination0 i 0 → i ≡ r
  pub settled : (r ≡ i → ⊥) → get_or destination r 0 < n

-- and this whatever the sets are
pub record Goes (n : ℕ) (source0 destination0 source destination next : List ℕ) (r i j : ℕ) : Type 0 where
  pub all : (may : List ℕ) (c : CanFlip n may source0 destination0 next r) → Going n may source0 destination0 source destination next c.way.rank r i j

-- how many destinations are as at the start
pub same : (n : ℕ) (source0 source : List ℕ) → ℕ
same n source0 source = sum_to n (λ u. hit (get_or source u 0) (get_or source0 u 0))

module _ {n : ℕ} {may source0 destination0 source destination next : List ℕ} {r i j : ℕ} (c : CanFlip n may source0 destination0 next r)
    (g : Going n may source0 destination0 source destination next c.way.rank r i j) (hi : i < n)
    {to k : ℕ} (et : to ≡ get_or next i 0) (ek : k ≡ get_or source to 0) where
  pub to_in : to < n
  to_in = omega (arith, (g.hop hi).within)

  was : get_or source to 0 ≡ get_or source0 to 0
  was = g.low hi to to_in (rw et (omega arith))

  apart : (k ≡ i → ⊥)
  apart e = g.lone hi to to_in (sym ek ∙ e)

  -- the source that has to go on was there from the start
  home : k < n → get_or destination0 k 0 ≡ to
  home lt = ap (λ (x : ℕ). get_or destination0 x 0) (ek ∙ was) ∙ c.paired.back to to_in (omega (arith, was))

  its_rank : k < n → 0 < c.way.rank (get_or destination0 k 0)
  its_rank lt = rw (home lt, et) (g.hop hi).reached

  source_here : get_or (set source to i) to 0 ≡ i
  source_here = get_or-set_same source to i 0 (omega (arith, g.source_len, c.sources, to_in))

  source_else : (u : ℕ) → (u ≡ to → ⊥) → get_or (set source to i) u 0 ≡ get_or source u 0
  source_else u ne = get_or-set_other source to u i 0 ne

  destination_here : get_or (set destination i to) i 0 ≡ to
  destination_here = get_or-set_same destination i to 0 (omega (arith, g.destination_len, c.destinations))

  destination_else : (a : ℕ) → (a ≡ i → ⊥) → get_or (set destination i to) a 0 ≡ get_or destination a 0
  destination_else a ne = get_or-set_other destination i a to 0 ne

  pub go_step : Going n may source0 destination0 (set source to i) (set destination i to) next c.way.rank r k to
  go_step = record {
    source_len = length-set source to i ∙ g.source_len;
    destination_len = length-set destination i to ∙ g.destination_len;
    within = omega (arith, g.source_most to to_in);
    source_most = λ u hu. by_eq u to (λ e. rw e (omega (arith, source_here))) (λ ne. omega (arith, source_else u ne, g.source_most u hu));
    destination_most = λ a ha. by_eq a i (λ e. rw e (omega (arith, destination_here, to_in))) (λ ne. omega (arith, destination_else a ne, g.destination_most a ha));
    back = λ u hu lt. by_eq u to
        (λ e. rw e (ap (λ (x : ℕ). get_or (set destination i to) x 0) source_here ∙ destination_here))
        (λ ne.
        let e = source_else u ne in
        ap (λ (x : ℕ). get_or (set destination i to) x 0) e ∙ destination_else (get_or source u 0) (g.lone hi u hu) ∙ g.back u hu (omega arith));
    forth = λ a ha nk lt. by_eq a i
        (λ e. rw e (ap (λ (x : ℕ). get_or (set source to i) x 0) destination_here ∙ source_here))
        (λ ne.
        let e = destination_else a ne in
        let there : get_or source (get_or destination a 0) 0 ≡ a = g.forth a ha ne (omega arith) in
        ap (λ (x : ℕ). get_or (set source to i) x 0) e
        ∙ source_else (get_or destination a 0) (λ q. nk (sym there ∙ ap (λ (x : ℕ). get_or source x 0) q ∙ sym ek))
        ∙ there);
    allows = λ u hu lt. by_eq u to
        (λ e. rw e (rw source_here (rw et (g.hop hi).allows)))
        (λ ne. let e = source_else u ne in rw e (g.allows u hu (omega arith)));
    lone = λ lt u hu e. by_eq u to
        (λ q. apart (sym e ∙ ap (λ (x : ℕ). get_or (set source to i) x 0) q ∙ source_here))
        (λ ne.
        let old : get_or source u 0 ≡ k = sym (source_else u ne) ∙ e in
        ne (sym (g.back u hu (omega arith)) ∙ ap (λ (x : ℕ). get_or destination x 0) (old ∙ ek) ∙ g.back to to_in (omega arith)));
    hop = λ lt. c.way.leads.hops k lt (omega (arith, home lt, to_in)) (its_rank lt);
    low = λ lt u hu le.
        let down : c.way.rank (get_or next k 0) < c.way.rank to = rw (home lt) at (c.way.leads.falls k lt (omega (arith, home lt, to_in)) (its_rank lt)) in
        source_else u (λ e. omega (arith, ap c.way.rank e))
        ∙ g.low hi u hu (rw (sym et) (omega arith));
    stays = λ u hu lt. by_eq u to (λ e. rw e (omega (arith, source_here))) (λ ne. omega (arith, source_else u ne, g.stays u hu lt));
    frees = λ u hu le q. by_eq u to
        (λ e. absurd (omega (arith, q e, was, ap (λ (x : ℕ). get_or source0 x 0) e)))
        (λ ne. omega (arith, source_else u ne, g.frees u hu le (λ e. hi)));
    stored = λ lt. omega (arith, source_here);
    ended = λ le. (to_in, omega (arith, was));
    moved = λ a ha lt. by_eq a i (λ e. rw e (omega (arith, destination_here, to_in))) (λ ne. omega (arith, destination_else a ne, g.moved a ha lt));
    others = λ a ha le nr. by_eq a i
        (λ e. absurd (nr (e ∙ g.hand hi (omega (arith, ap (λ (x : ℕ). get_or destination0 x 0) e)))))
        (λ ne. omega (arith, destination_else a ne, g.others a ha le nr));
    hand = λ lt le. absurd (omega (arith, home lt, to_in));
    settled = λ ne. by_eq r i
        (λ e. rw e (omega (arith, destination_here, to_in)))
        (λ nr. omega (arith, destination_else r nr, g.settled nr));
  }

  pub go_falls : same n source0 (set source to i) < same n source0 source
  unfolding same
  go_falls = omega (
    arith,
    sum_update n (λ u. hit (get_or source u 0) (get_or source0 u 0)) (λ u. hit (get_or (set source to i) u 0) (get_or source0 u 0)) to to_in
        (λ u hu ne. ap (λ (x : ℕ). hit x (get_or source0 u 0)) (source_else u ne)),
    hit_same was,
    hit_other {a = get_or (set source to i) to 0} {b = get_or source0 to 0} (λ e. apart (ek ∙ was ∙ sym e ∙ source_here)),
  )

pub go_end : {n : ℕ} {may source0 destination0 source destination next : List ℕ} {r i j : ℕ} (c : CanFlip n may source0 destination0 next r)
    → Going n may source0 destination0 source destination next c.way.rank r i j → n ≤ i → Flipped n may source0 destination0 source destination r j
go_end c g le = record {
  paired = record {
    source_most = g.source_most;
    destination_most = g.destination_most;
    back = g.back;
    forth = λ a ha lt. g.forth a ha (λ e. omega arith) lt;
    allows = g.allows;
  };
  source_new = record {
    within = c.within;
    was = c.way.free;
    now = g.settled (λ e. omega (arith, c.within));
    stays = g.moved;
    frees = g.others;
  };
  destination_new = record {
    within = (g.ended le).0;
    was = (g.ended le).1;
    now = g.stored (g.ended le).0;
    stays = g.stays;
    frees = λ u hu h ne. g.frees u hu h (λ e. absurd (ne e));
  };
}
