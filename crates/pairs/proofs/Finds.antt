-- The search: what it keeps, that it ends in a way where it meets a free source, and else in the sets that show why there is none.
-- A destination's rank is the round in which it was reached, so it falls along the way; ranks exist in the proof alone. The laws assume nothing.
use mathlib.Core.Path.{◌≡◌, refl, sym, ap, ◌∙◌}
use mathlib.Core.Bool.{cond}
use mathlib.Core.List.{List}
use Prim.Native.Nat.{ℕ, ◌+◌, ◌*◌, ◌≤◌, ◌<◌}
use native.Mathlib.Omega.{arith}
use native.Mathlib.Nat.{mul-le-mul_left}
use borrow.Author.Tests.{lt-ltb, le-ltb}
use lib.Dec.{ltb}
use lib.ListN.{length, get_or}
use Rattle.sums.specs.Sums.{hit}
use Rattle.sums.proofs.Sums.{hit_same, hit_other}
use Rattle.sums.proofs.Cases.{by_eq, by_lt}
use Rattle.nodes.specs.Sets.{member, size, All, Without, Both, Minus, First}
use Rattle.nodes.proofs.Members.{member_lt}
use Rattle.nodes.proofs.Sizes.{size_without, size_parted}
use Rattle.pairs.specs.Pairs.{allowed}
use Rattle.pairs.specs.Ways.{CanSpread, Met, Opened, Leads, CanSearch, Searched}

-- `left` has the sources that no reached destination may hear, `todo` the destinations that are reached and not done
pub record Finding (n : ℕ) (may destination next0 next : List ℕ) (sources destinations todo left : ℕ) : Type 0 where
  pub rank : ℕ → ℕ
  pub top : ℕ
  pub leads : Leads n may destination next rank
  pub low : (j : ℕ) → j < n → rank j < top
  pub roots : (j : ℕ) → j < n → member j destinations ≡ 1 → 0 < rank j
  pub opened : (j : ℕ) → j < n → member j todo ≡ 1 → 0 < rank j
  pub dry : (j : ℕ) → j < n → member j todo ≡ 1 → (i : ℕ) → i < n → member i sources ≡ 1 → allowed may i j ≡ 1 → ⊥
  pub closed : (i j : ℕ) → i < n → j < n → 0 < rank j → member j todo ≡ 0 → allowed may i j ≡ 1 → member i left ≡ 0
  pub paired : (i : ℕ) → i < n → member i left ≡ 0 → get_or destination i 0 < n
  pub reached : (i : ℕ) → i < n → member i left ≡ 0 → 0 < rank (get_or destination i 0)
  pub seen : (i : ℕ) → i < n → get_or destination i 0 < n → 0 < rank (get_or destination i 0) → member i left ≡ 0
  pub len : length next ≡ length next0

pub find_start : (n : ℕ) (may destination next : List ℕ) (sources destinations left : ℕ) → CanSearch n may destination next sources destinations → All left
    → Finding n may destination next next sources destinations destinations left
find_start n may destination next sources destinations left c a =
    let none : (i : ℕ) → i < n → get_or destination i 0 < n → 0 < member (get_or destination i 0) destinations → ⊥ = λ i hi hd pos. omega (arith, c.apart i hi hd) in
    record {
      rank = λ j. member j destinations;
      top = 2;
      leads = record { hops = λ i hi hd pos. absurd (none i hi hd pos); falls = λ i hi hd pos. absurd (none i hi hd pos) };
      low = λ j hj. member_lt j destinations;
      roots = λ j hj e. omega arith;
      opened = λ j hj e. omega arith;
      dry = c.dry;
      closed = λ i j hi hj pos z. absurd (omega arith);
      paired = λ i hi z. absurd (omega (arith, a.in' i (omega (arith, c.nodes))));
      reached = λ i hi z. absurd (omega (arith, a.in' i (omega (arith, c.nodes))));
      seen = λ i hi hd pos. absurd (none i hi hd pos);
      len = refl;
    }

-- the ranks where the marked destinations are reached now
abbrev relabel : (ℕ → ℕ) → ℕ → (ℕ → ℕ) → ℕ → ℕ
relabel rank top mark u = cond (ltb 0 (rank u)) (rank u) (top * mark u)

rank_old : (rank : ℕ → ℕ) (top : ℕ) (mark : ℕ → ℕ) (u : ℕ) → 0 < rank u → relabel rank top mark u ≡ rank u
rank_old rank top mark u pos = rw (lt-ltb 0 (rank u) pos) refl

rank_new : (rank : ℕ → ℕ) (top : ℕ) (mark : ℕ → ℕ) (u : ℕ) → rank u ≡ 0 → relabel rank top mark u ≡ top * mark u
rank_new rank top mark u z = rw (le-ltb 0 (rank u) (omega arith)) refl

module _ {n : ℕ} {may destination next0 next : List ℕ} {sources destinations todo left : ℕ}
    (c : CanSearch n may destination next0 sources destinations)
    (g : Finding n may destination next0 next sources destinations todo left)
    {j : ℕ} (f : First todo j) (hj : j < n) where
  here : member j todo ≡ 1
  here = f.found (omega (arith, c.nodes))

  top_some : 0 < g.top
  top_some = omega (arith, g.low j hj)

  module _ {heard new : ℕ} (eh : heard ≡ get_or may j 0) (b : Both left heard new) where
    new_left : (i : ℕ) → member i new ≡ 1 → member i left ≡ 1
    new_left i e =
        by_eq (member i left) 0
        (λ z. absurd (let q : member i left * member i heard ≡ 0 = rw z (omega arith) in omega (arith, b.members i)))
        (λ ne. omega (arith, member_lt i left))

    not_new : (i : ℕ) → member i left ≡ 0 → member i new ≡ 0
    not_new i z = b.members i ∙ rw z (omega arith)

    new_allowed : (i : ℕ) → member i new ≡ 1 → allowed may i j ≡ 1
    unfolding allowed
    new_allowed i e =
        by_eq (member i heard) 0
        (λ z. absurd (let q : member i left * member i heard ≡ 0 = rw z (omega arith) in omega (arith, b.members i)))
        (λ ne. ap (member i) (sym eh) ∙ omega (arith, member_lt i heard))

    -- each source that can move to j for the first time has a destination
    new_paired : (i : ℕ) → i < n → member i new ≡ 1 → get_or destination i 0 < n
    new_paired i hi e = by_lt (get_or destination i 0) n (λ lt. lt) (λ le. absurd (g.dry j hj here i hi (c.free.in' i hi le) (new_allowed i e)))

    pub find_spread : CanSpread n may destination next sources new j
    find_spread = record {
      nodes = c.nodes;
      mays = c.mays;
      lists = c.lists;
      nexts = omega (arith, c.nexts, g.len);
      within = hj;
      free = c.free;
      paired = new_paired;
    }

    -- a way stays one where sources that were left move to j, and their destinations are marked
    module _ (next' : List ℕ) (mark : ℕ → ℕ)
        (old : (i : ℕ) → i < n → member i left ≡ 0 → get_or next' i 0 ≡ get_or next i 0)
        (fresh : (i : ℕ) → i < n → get_or destination i 0 < n → g.rank (get_or destination i 0) ≡ 0 → 0 < mark (get_or destination i 0) → (get_or next' i 0 ≡ j) × (allowed may i j ≡ 1)) where
      marked : (u : ℕ) → g.rank u ≡ 0 → 0 < relabel g.rank g.top mark u → 0 < mark u
      marked u z pos =
          by_eq (mark u) 0
          (λ e. absurd (let q : g.top * mark u ≡ 0 = rw e (omega arith) in omega (arith, rank_new g.rank g.top mark u z)))
          (λ ne. omega arith)

      more_leads : Leads n may destination next' (relabel g.rank g.top mark)
      more_leads = record {
        hops = λ i hi hd pos. by_eq (g.rank (get_or destination i 0)) 0
            (λ z.
            let q = fresh i hi hd z (marked (get_or destination i 0) z pos) in
            record {
              within = rw q.0 hj;
              allows = rw q.0 q.1;
              reached = rw q.0 (rw (rank_old g.rank g.top mark j (g.opened j hj here)) (g.opened j hj here));
            })
            (λ ne.
            let p : 0 < g.rank (get_or destination i 0) = omega arith in
            let h = g.leads.hops i hi hd p in
            let e : get_or next' i 0 ≡ get_or next i 0 = old i hi (g.seen i hi hd p) in
            record {
              within = rw e h.within;
              allows = rw e h.allows;
              reached = rw e (rw (rank_old g.rank g.top mark (get_or next i 0) h.reached) h.reached);
            });
        falls = λ i hi hd pos. by_eq (g.rank (get_or destination i 0)) 0
            (λ z.
            let m : 0 < mark (get_or destination i 0) = marked (get_or destination i 0) z pos in
            let q = fresh i hi hd z m in
            let up : g.top ≤ g.top * mark (get_or destination i 0) = top_up g.top (mark (get_or destination i 0)) m in
            rw q.0 (omega (arith, rank_old g.rank g.top mark j (g.opened j hj here), rank_new g.rank g.top mark (get_or destination i 0) z, g.low j hj)))
            (λ ne.
            let p : 0 < g.rank (get_or destination i 0) = omega arith in
            let h = g.leads.hops i hi hd p in
            rw (old i hi (g.seen i hi hd p))
            (omega (arith, rank_old g.rank g.top mark (get_or next i 0) h.reached, rank_old g.rank g.top mark (get_or destination i 0) p, g.leads.falls i hi hd p)));
      }
        where
          top_up : (t m : ℕ) → 0 < m → t ≤ t * m
          top_up t m pos = let q : t * 1 ≤ t * m = mul-le-mul_left t pos in omega arith

    -- the search meets source r, which has no destination
    pub find_found : {next' : List ℕ} {r : ℕ} → Met n may destination next next' sources new j r → r < n → Searched n may destination next' destinations r
    find_found {next'} {r} p hr =
        let i : ℕ = p.who in
        let hd : get_or destination i 0 < n = new_paired i p.within p.among in
        let blank : g.rank (get_or destination i 0) ≡ 0 =
        by_eq (g.rank (get_or destination i 0)) 0 (λ z. z) (λ ne. absurd (omega (arith, new_left i p.among, g.seen i p.within hd (omega arith)))) in
        let fr : n ≤ get_or destination r 0 = c.free.out r hr p.free in
        let mark : ℕ → ℕ = λ u. hit (get_or destination i 0) u in
        let one : mark (get_or destination i 0) ≡ 1 = hit_same {a = get_or destination i 0} refl in
        record {
          within = omega arith;
          found = λ lt. record {
            rank = relabel g.rank g.top mark;
            leads = more_leads next' mark
                (λ u hu z. p.rest u hu (not_new u z) (λ e. omega (arith, g.paired u hu z, ap (λ (x : ℕ). get_or destination x 0) e)))
                (λ u hu hud z pos.
                let same : get_or destination i 0 ≡ get_or destination u 0 =
                by_eq (get_or destination i 0) (get_or destination u 0) (λ e. e) (λ ne. absurd (omega (arith, hit_other ne))) in
                let e : i ≡ u = c.once i u p.within hu hd same in
                (ap (λ (x : ℕ). get_or next' x 0) (sym e) ∙ p.moves, ap (λ (x : ℕ). allowed may x j) (sym e) ∙ new_allowed i p.among));
            hop = record {
              within = rw p.meets hd;
              allows = rw p.meets p.allows;
              reached = rw p.meets
                  (omega (arith, top_some, rank_new g.rank g.top mark (get_or destination i 0) blank, ap (λ (x : ℕ). g.top * x) one));
            };
            free = fr;
          };
          none = λ le. absurd (omega arith);
        }

    -- all that can move to j is marked
    module _ {left' todo' todo'' : ℕ} {next' : List ℕ} (m : Minus left heard left') (w : Without todo j todo')
        (s : Opened n may destination next next' sources new j todo' todo'') (len : length next' ≡ length next) where
      parted : (k : ℕ) → member k left' + member k new ≡ member k left
      parted k = omega (arith, b.members k, m.members k)

      -- a destination to do that is not reached yet is that of a new source
      fresh_new : (k : ℕ) → k < n → get_or destination k 0 < n → g.rank (get_or destination k 0) ≡ 0 → 0 < member (get_or destination k 0) todo'' → member k new ≡ 1
      fresh_new k hk hd z pos =
          let out : member (get_or destination k 0) todo' ≡ 0 =
          by_eq (member (get_or destination k 0) todo') 0 (λ e. e)
          (λ ne. by_eq (get_or destination k 0) j
          (λ e. absurd (omega (arith, ap g.rank e, g.opened j hj here)))
          (λ nj. absurd (omega (arith, g.opened (get_or destination k 0) hd (sym (w.other (get_or destination k 0) nj) ∙ omega (arith, member_lt (get_or destination k 0) todo')))))) in
          let o = s.none (get_or destination k 0) hd (omega (arith, member_lt (get_or destination k 0) todo'')) out in
          let e : k ≡ o.who = c.once k o.who hk o.within hd (sym o.there) in
          rw e o.among

      new_rank : ℕ → ℕ
      new_rank = relabel g.rank g.top (λ u. member u todo'')

      new_opened : (u : ℕ) → member u todo'' ≡ 1 → 0 < new_rank u
      unfolding new_rank
      new_opened u e =
          by_eq (g.rank u) 0
          (λ z. omega (arith, top_some, rank_new g.rank g.top (λ x. member x todo'') u z, ap (λ (x : ℕ). g.top * x) e))
          (λ ne. omega (arith, rank_old g.rank g.top (λ x. member x todo'') u (omega arith)))

      kept_rank : (u : ℕ) → 0 < g.rank u → 0 < new_rank u
      unfolding new_rank
      kept_rank u pos = omega (arith, rank_old g.rank g.top (λ x. member x todo'') u pos)

      -- a reached destination that is not to do was reached before
      was_reached : (u : ℕ) → 0 < new_rank u → member u todo'' ≡ 0 → 0 < g.rank u
      unfolding new_rank
      was_reached u pos z =
          by_eq (g.rank u) 0
          (λ e. absurd (omega (arith, rank_new g.rank g.top (λ x. member x todo'') u e, ap (λ (x : ℕ). g.top * x) z)))
          (λ ne. omega arith)

      new_low : (u : ℕ) → u < n → new_rank u < g.top + 1
      unfolding new_rank
      new_low u hu =
          by_eq (g.rank u) 0
          (λ z. by_eq (member u todo'') 0
          (λ e. omega (arith, rank_new g.rank g.top (λ x. member x todo'') u z, ap (λ (x : ℕ). g.top * x) e))
          (λ ne.
          let e : member u todo'' ≡ 1 = omega (arith, member_lt u todo'') in
          omega (arith, rank_new g.rank g.top (λ x. member x todo'') u z, ap (λ (x : ℕ). g.top * x) e)))
          (λ ne. omega (arith, rank_old g.rank g.top (λ x. member x todo'') u (omega arith), g.low u hu))

      -- the destinations to do: those from before without j, and those of the new sources
      to_do : (u : ℕ) → u < n → member u todo'' ≡ 1 → (i : ℕ) → i < n → member i sources ≡ 1 → allowed may i u ≡ 1 → ⊥
      to_do u hu e =
          by_eq (member u todo') 0
          (λ z. let o = s.none u hu e z in rw (sym o.there) (s.dry o.who o.within o.among))
          (λ ne. by_eq u j
          (λ q. absurd (ne (ap (λ (x : ℕ). member x todo') q ∙ w.here)))
          (λ nj. g.dry u hu (sym (w.other u nj) ∙ omega (arith, member_lt u todo'))))

      pub find_step : Finding n may destination next0 next' sources destinations todo'' left'
      unfolding allowed new_rank
      find_step = record {
        rank = new_rank;
        top = g.top + 1;
        leads = more_leads next' (λ u. member u todo'')
            (λ k hk z. s.rest k hk (not_new k z))
            (λ k hk hd z pos.
            let e : member k new ≡ 1 = fresh_new k hk hd z pos in
            (s.moves k hk e, new_allowed k e));
        low = new_low;
        roots = λ u hu e. kept_rank u (g.roots u hu e);
        opened = λ u hu e. new_opened u e;
        dry = to_do;
        closed = λ k u hk hu pos z e.
            let was : 0 < g.rank u = was_reached u pos z in
            by_eq u j
            (λ q.
            let one : member k heard ≡ 1 = ap (member k) eh ∙ ap (λ (x : ℕ). allowed may k x) (sym q) ∙ e in
            let h : member k left' + member k left * 1 ≡ member k left = rw one at (m.members k) in
            omega arith)
            (λ nj.
            let gone : member u todo ≡ 0 =
            by_eq (member u todo) 0 (λ y. y)
            (λ ne. absurd (omega (arith, s.kept u hu (w.other u nj ∙ omega (arith, member_lt u todo))))) in
            omega (arith, parted k, g.closed k u hk hu was gone e));
        paired = λ k hk z. by_eq (member k left) 0
            (λ y. g.paired k hk y)
            (λ ne. new_paired k hk (omega (arith, parted k, member_lt k left)));
        reached = λ k hk z. by_eq (member k left) 0
            (λ y. kept_rank (get_or destination k 0) (g.reached k hk y))
            (λ ne. new_opened (get_or destination k 0) (s.come k hk (omega (arith, parted k, member_lt k left))));
        seen = λ k hk hd pos. by_eq (g.rank (get_or destination k 0)) 0
            (λ y.
            let e : member k new ≡ 1 = by_eq (member (get_or destination k 0) todo'') 0
            (λ q. absurd (omega (arith, was_reached (get_or destination k 0) pos q)))
            (λ ne. fresh_new k hk hd y (omega arith)) in
            omega (arith, parted k, member_lt k left))
            (λ ne. omega (arith, parted k, g.seen k hk hd (omega arith)));
        len = len ∙ g.len;
      }

      pub find_falls : size n todo'' + size n left' < size n todo + size n left
      find_falls = omega (arith, s.many, size_without n todo todo' j hj here w, size_parted n left heard new left' b m)
