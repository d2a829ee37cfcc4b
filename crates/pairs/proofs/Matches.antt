-- Pairing one after the other: what holds between two turns, what a pair more does to the free nodes, and that a failed search marks
-- the sources. The laws assume nothing.
use mathlib.Core.Path.{◌≡◌, refl, sym, ap, ◌∙◌}
use mathlib.Core.Bool.{cond}
use mathlib.Core.List.{List}
use Prim.Native.Nat.{ℕ, ◌-◌, ◌≤◌, ◌<◌}
use native.Mathlib.Omega.{arith}
use borrow.Author.Tests.{lt-ltb, le-ltb}
use lib.Dec.{ltb}
use lib.ListN.{length, get_or, set, length-set}
use lib.Seq.{get_or-set_same, get_or-set_other}
use Rattle.sums.specs.Sums.{hit}
use Rattle.sums.proofs.Sums.{sum_at, hit_same}
use Rattle.sums.proofs.Cases.{by_eq, by_lt}
use Rattle.nodes.specs.Sets.{member, size, All, Without, First}
use Rattle.nodes.proofs.Members.{member_lt}
use Rattle.nodes.proofs.Sizes.{size_without}
use Rattle.arrays.specs.Arrays.{Filled}
use Rattle.pairs.specs.Pairs.{allowed, partners, Paired, Unpaired, FreeNodes, Full, Stuck, Rooms, Matched}
use Rattle.pairs.specs.Ways.{Fewer, Choice, Directed, CanSearch, Shut, Searched, CanFlip, Flipped}

-- ---- free nodes: all at first, and one fewer with each pair
pub all_free : {n : ℕ} {x : List ℕ} {s : ℕ} → n ≤ 64 → Filled n x n → All s → Unpaired n x s
all_free le f a = record { in' = λ k hk h. a.in' k (omega arith); out = λ k hk e. omega (arith, f.all k hk) }

pub fewer_free : {n : ℕ} {x y : List ℕ} {s s' e : ℕ} → Unpaired n x s → Fewer n x y e → Without s e s' → Unpaired n y s'
fewer_free {n = n} {x = x} {y = y} {s' = s'} {e = e} u f w = record {
  in' = λ k hk le.
      let ne : (k ≡ e → ⊥) = λ q. omega (arith, f.now, ap (λ (a : ℕ). get_or y a 0) q) in
      w.other k ne ∙ u.in' k hk (by_lt (get_or x k 0) n (λ lt. absurd (omega (arith, f.stays k hk lt))) (λ h. h));
  out = λ k hk one.
      let ne : (k ≡ e → ⊥) = λ q. omega (arith, w.here, ap (λ (a : ℕ). member a s') q) in
      f.frees k hk (u.out k hk (sym (w.other k ne) ∙ one)) ne;
}

pub fewer_falls : {n : ℕ} {x y : List ℕ} {s s' e : ℕ} → Unpaired n x s → Fewer n x y e → Without s e s' → size n s' < size n s
fewer_falls {n = n} {s = s} {s' = s'} {e = e} u f w = omega (arith, size_without n s s' e f.within (u.in' e f.within f.was) w)

-- ---- a free destination and a free source that it may hear
module _ {n : ℕ} {may source destination : List ℕ} (p : Paired n may source destination) (fits-s : n ≤ length source) (fits-d : n ≤ length destination)
    {i j : ℕ} (hi : i < n) (hj : j < n) (fi : n ≤ get_or destination i 0) (fj : n ≤ get_or source j 0) (ok : allowed may i j ≡ 1) where
  source_here : get_or (set source j i) j 0 ≡ i
  source_here = get_or-set_same source j i 0 (omega arith)

  destination_here : get_or (set destination i j) i 0 ≡ j
  destination_here = get_or-set_same destination i j 0 (omega arith)

  pub pair_step : Paired n may (set source j i) (set destination i j)
  pair_step = record {
    source_most = λ u hu. by_eq u j (λ e. rw e (omega (arith, source_here))) (λ ne. omega (arith, get_or-set_other source j u i 0 ne, p.source_most u hu));
    destination_most = λ a ha. by_eq a i (λ e. rw e (omega (arith, destination_here))) (λ ne. omega (arith, get_or-set_other destination i a j 0 ne, p.destination_most a ha));
    back = λ u hu lt. by_eq u j
        (λ e. rw e (ap (λ (x : ℕ). get_or (set destination i j) x 0) source_here ∙ destination_here))
        (λ ne.
        let e = get_or-set_other source j u i 0 ne in
        let old : get_or destination (get_or source u 0) 0 ≡ u = p.back u hu (omega arith) in
        ap (λ (x : ℕ). get_or (set destination i j) x 0) e
        ∙ get_or-set_other destination i (get_or source u 0) j 0 (λ q. omega (arith, ap (λ (x : ℕ). get_or destination x 0) q))
        ∙ old);
    forth = λ a ha lt. by_eq a i
        (λ e. rw e (ap (λ (x : ℕ). get_or (set source j i) x 0) destination_here ∙ source_here))
        (λ ne.
        let e = get_or-set_other destination i a j 0 ne in
        let old : get_or source (get_or destination a 0) 0 ≡ a = p.forth a ha (omega arith) in
        ap (λ (x : ℕ). get_or (set source j i) x 0) e
        ∙ get_or-set_other source j (get_or destination a 0) i 0 (λ q. omega (arith, ap (λ (x : ℕ). get_or source x 0) q))
        ∙ old);
    allows = λ u hu lt. by_eq u j
        (λ e. rw e (rw source_here ok))
        (λ ne. let e = get_or-set_other source j u i 0 ne in rw e (p.allows u hu (omega arith)));
  }

pub fewer_set : {n : ℕ} (x : List ℕ) {e v : ℕ} → n ≤ length x → e < n → n ≤ get_or x e 0 → v < n → Fewer n x (set x e v) e
fewer_set x {e} {v} fits he was hv =
    let here : get_or (set x e v) e 0 ≡ v = get_or-set_same x e v 0 (omega arith) in
    record {
      within = he;
      was = was;
      now = omega arith;
      stays = λ k hk lt. by_eq k e (λ q. rw q (omega arith)) (λ ne. omega (arith, get_or-set_other x e k v 0 ne));
      frees = λ k hk le ne. omega (arith, get_or-set_other x e k v 0 ne);
    }

-- what is in the set without e was in it
was_in : {s e s' : ℕ} → Without s e s' → (k : ℕ) → member k s' ≡ 1 → member k s ≡ 1
was_in {e = e} {s' = s'} w k one = by_eq k e (λ q. absurd (omega (arith, w.here, ap (λ (x : ℕ). member x s') q))) (λ ne. sym (w.other k ne) ∙ one)

-- ---- the free destinations that have left `todo` may hear none of the free sources
pub record Directing (n : ℕ) (may source0 destination0 source destination : List ℕ) (sources destinations todo : ℕ) : Type 0 where
  pub paired : Paired n may source destination
  pub free : FreeNodes n source destination sources destinations
  pub sub : (j : ℕ) → j < n → member j todo ≡ 1 → member j destinations ≡ 1
  pub dry : (j : ℕ) → j < n → member j todo ≡ 0 → member j destinations ≡ 1 → (i : ℕ) → i < n → member i sources ≡ 1 → allowed may i j ≡ 1 → ⊥
  pub source_len : length source ≡ length source0
  pub destination_len : length destination ≡ length destination0

module _ {n : ℕ} {may source0 destination0 source destination : List ℕ} {sources destinations todo j : ℕ}
    (c : Rooms n may source0 destination0) (g : Directing n may source0 destination0 source destination sources destinations todo) (f : First todo j) where
  module _ (hj : j < n) {todo' : ℕ} (w : Without todo j todo') where
    here_todo : member j todo ≡ 1
    here_todo = f.found (omega (arith, c.nodes))

    pub direct_falls : size n todo' < size n todo
    direct_falls = omega (arith, size_without n todo todo' j hj here_todo w)

    module _ {i : ℕ} (ch : Choice n may sources j i) where
      pub direct_pair : {sources' destinations' : ℕ} → i < n → Without sources i sources' → Without destinations j destinations'
          → Directing n may source0 destination0 (set source j i) (set destination i j) sources' destinations' todo'
      direct_pair {sources'} {destinations'} hi ws wd =
          let fits : n ≤ length source = omega (arith, c.sources, g.source_len) in
          let fitd : n ≤ length destination = omega (arith, c.destinations, g.destination_len) in
          let free-i : n ≤ get_or destination i 0 = g.free.no_destination.out i hi (ch.among hi) in
          let free-j : n ≤ get_or source j 0 = g.free.no_source.out j hj (g.sub j hj here_todo) in
          record {
            paired = pair_step g.paired fits fitd hi hj free-i free-j (ch.allows hi);
            free = record {
              no_destination = fewer_free g.free.no_destination (fewer_set destination fitd hi free-i hj) ws;
              no_source = fewer_free g.free.no_source (fewer_set source fits hj free-j hi) wd;
            };
            sub = λ u hu e. by_eq u j
                (λ q. absurd (omega (arith, w.here, ap (λ (x : ℕ). member x todo') q)))
                (λ ne. wd.other u ne ∙ g.sub u hu (was_in w u e));
            dry = λ u hu z e a ha ea ok. by_eq u j
                (λ q. absurd (omega (arith, wd.here, ap (λ (x : ℕ). member x destinations') q)))
                (λ ne. g.dry u hu (sym (w.other u ne) ∙ z) (was_in wd u e) a ha (was_in ws a ea) ok);
            source_len = length-set source j i ∙ g.source_len;
            destination_len = length-set destination i j ∙ g.destination_len;
          }

-- ---- between two ways
pub record Working (n : ℕ) (may source0 destination0 next0 source destination next : List ℕ) (sources destinations : ℕ) : Type 0 where
  pub directed : Directed n may source destination sources destinations
  pub source_len : length source ≡ length source0
  pub destination_len : length destination ≡ length destination0
  pub next_len : length next ≡ length next0

module _ {n : ℕ} {may source0 destination0 next0 source destination next : List ℕ} {sources destinations : ℕ}
    (c : Rooms n may source0 destination0) (fits : n ≤ length next0) (g : Working n may source0 destination0 next0 source destination next sources destinations) where
  pub work_search : CanSearch n may destination next sources destinations
  work_search =
      let p = g.directed.paired in
      record {
        nodes = c.nodes;
        mays = c.mays;
        lists = omega (arith, c.destinations, g.destination_len);
        nexts = omega (arith, fits, g.next_len);
        free = g.directed.free.no_destination;
        once = λ i k hi hk lt e. sym (p.forth i hi lt) ∙ ap (λ (x : ℕ). get_or source x 0) e ∙ p.forth k hk (omega arith);
        apart = λ i hi lt.
            by_eq (member (get_or destination i 0) destinations) 0 (λ z. z)
            (λ ne. absurd (omega (
              arith,
              g.directed.free.no_source.out (get_or destination i 0) lt (omega (arith, member_lt (get_or destination i 0) destinations)),
              p.forth i hi lt,
            )));
        dry = g.directed.dry;
      }

  pub work_flip : {next' : List ℕ} {r : ℕ} → length next' ≡ length next → Searched n may destination next' destinations r → r < n → CanFlip n may source destination next' r
  work_flip e s lt = record {
    nodes = c.nodes;
    sources = omega (arith, c.sources, g.source_len);
    destinations = omega (arith, c.destinations, g.destination_len);
    nexts = omega (arith, fits, g.next_len);
    within = lt;
    paired = g.directed.paired;
    way = s.found lt;
  }

  pub work_flipped : {source' destination' next' : List ℕ} {r e sources' destinations' : ℕ} → length source' ≡ length source → length destination' ≡ length destination → length next' ≡ length next
      → Flipped n may source destination source' destination' r e → Without sources r sources' → Without destinations e destinations'
      → Working n may source0 destination0 next0 source' destination' next' sources' destinations'
  work_flipped ls ld ln f ws wd = record {
    directed = record {
      paired = f.paired;
      free = record {
        no_destination = fewer_free g.directed.free.no_destination f.source_new ws;
        no_source = fewer_free g.directed.free.no_source f.destination_new wd;
      };
      dry = λ j hj ej i hi ei. g.directed.dry j hj (was_in wd j ej) i hi (was_in ws i ei);
    };
    source_len = ls ∙ g.source_len;
    destination_len = ld ∙ g.destination_len;
    next_len = ln ∙ g.next_len;
  }

  pub work_falls : {source' destination' : List ℕ} {r e destinations' : ℕ} → Flipped n may source destination source' destination' r e → Without destinations e destinations' → size n destinations' < size n destinations
  work_falls f wd = fewer_falls g.directed.free.no_source f.destination_new wd

-- ---- the end: no destination is free, or the sources that are not left are marked
module _ {n : ℕ} {may source destination : List ℕ} {sources destinations : ℕ} (d : Directed n may source destination sources destinations) where
  all_paired : (j : ℕ) → First destinations j → n ≤ j → Full n source
  all_paired j f le = record {
    all = λ u hu. by_lt (get_or source u 0) n (λ lt. lt)
        (λ h. absurd (omega (arith, d.free.no_source.in' u hu h, f.before u (omega arith))));
  }

  marks : ℕ → ℕ → ℕ
  marks left a = cond (ltb a n) (1 - member a left) 1

  mark_in : (left a : ℕ) → a < n → marks left a ≡ 1 - member a left
  unfolding marks
  mark_in left a h = rw (lt-ltb a n h) refl

  mark_out : (left a : ℕ) → n ≤ a → marks left a ≡ 1
  unfolding marks
  mark_out left a h = rw (le-ltb a n h) refl

  partners_some : (u a : ℕ) → u < n → get_or source u 0 ≡ a → 1 ≤ partners n source a
  unfolding partners
  partners_some u a hu e = omega (arith, sum_at n (λ k. hit (get_or source k 0) a) u hu, hit_same e)

  shut_stuck : n ≤ 64 → Shut n may destination destinations → (j : ℕ) → First destinations j → j < n → Stuck n may source
  shut_stuck hn k j f lt =
      let p = d.paired in
      let free-j : get_or source j 0 ≡ n = omega (arith, p.source_most j lt, d.free.no_source.out j lt (f.found (omega arith))) in
      record {
        mark = marks k.left;
        root = mark_out k.left n (omega arith);
        paired = λ i hi pos.
            let gone : member i k.left ≡ 0 = omega (arith, mark_in k.left i hi) in
            partners_some (get_or destination i 0) i (k.paired i hi gone) (p.forth i hi (k.paired i hi gone));
        closed = λ i u hi hu pos ok.
            let reached : 0 < k.rank u = by_lt (get_or source u 0) n
            (λ h.
            let gone : member (get_or source u 0) k.left ≡ 0 = omega (arith, mark_in k.left (get_or source u 0) h) in
            rw (p.back u hu h) at (k.reached (get_or source u 0) h gone))
            (λ h. k.roots u hu (d.free.no_source.in' u hu h)) in
            omega (arith, mark_in k.left i hi, k.closed i u hi hu reached ok);
        free = partners_some j n lt free-j;
      }

  pub work_end : n ≤ 64 → Shut n may destination destinations → Matched n may source destination sources destinations
  work_end hn k = record {
    paired = d.paired;
    free = d.free;
    all = all_paired;
    none = shut_stuck hn k;
  }
