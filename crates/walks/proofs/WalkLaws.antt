-- Walk after walk: what goes along a path is taken from the headroom at its ends, and who has no headroom left leaves; the rows' headroom and the number of nodes in the
-- layers fall. Assumes nothing.
use Prim.Native.Nat.{ℕ, ◌+◌, ◌-◌, ◌*◌, ◌≤◌, ◌<◌}
use native.Mathlib.Omega.{arith}
use mathlib.Core.Path.{◌≡◌, sym, ◌∙◌}
use mathlib.Core.Bool.{Bool, true, false, false≢true}
use mathlib.Core.Logic.{◌⊎◌, ⊎_elim, inl}
use mathlib.Core.List.{List}
use lib.ListN.{length, get_or, set}
use lib.Seq.{get_or-set_other}
use Rattle.sums.proofs.Cases.{by_eq}
use Rattle.nodes.specs.Sets.{member, First}
use Rattle.growth.specs.Growth.{SpansKept, row_headroom}
use Rattle.growth.specs.Sides.{Sides}
use Rattle.growth.proofs.Keeping.{kept_none, kept_join, kept_spent, spent_falls}
use Rattle.layers.specs.Layers.{Layered, Apart, Meets}
use Rattle.walks.specs.Paths.{Thinned, weight, Climbed, Passable, Bottleneck, CanSend, Sent}
use Rattle.walks.specs.Walks.{OpenEnds, CanSpend, Spent}
use Rattle.walks.proofs.Thinning.{thinned_join, thinned_weight, thinned_apart}
use Rattle.walks.proofs.Sends.{follows_passes}

-- ---- a walk
thinned_open : {n last : ℕ} {headroom rows columns rows' columns' : List ℕ} → Thinned rows columns rows' columns' → OpenEnds n headroom rows columns last → OpenEnds n headroom rows' columns' last
thinned_open {last = last} T R = record { starts = λ i p e. R.starts i p (T.row 0 i e); ends = λ j q e. R.ends j q (T.column last j e) }

-- the headroom that is left is that of what is left
spent_open : {n i j last x : ℕ} {headroom rows columns headroom' rows' columns' : List ℕ} → CanSpend n headroom i j last x → OpenEnds n headroom rows columns last → Spent n headroom rows columns headroom' rows' columns' i j last x → OpenEnds n headroom' rows' columns' last
spent_open {n} {i} {j} {last} {x} {headroom} {headroom' = headroom'} {rows' = rows'} {columns' = columns'} C R S =
    let rest = set headroom i (get_or headroom i 0 - x) in
    let y = get_or rest (n + j) 0 - x in
    record {
      starts = λ r p e.
          by_eq r i
          (λ z. by_eq (get_or headroom' r 0) 0
          (λ no.
          let none : get_or headroom' i 0 ≡ 0 = rw z at no in
          let on : member i (get_or rows' 0 0) ≡ 1 = rw z at e in
          absurd (omega (arith, S.row none)))
          (λ some. omega arith))
          (λ ne.
          let s : get_or headroom' r 0 ≡ get_or headroom r 0 = rw S.cells (get_or-set_other rest (n + j) r y 0 (λ q. omega arith) ∙ get_or-set_other headroom i r (get_or headroom i 0 - x) 0 ne) in
          omega (arith, s, R.starts r p (S.thinned.row 0 r e)));
      ends = λ c q e.
          by_eq c j
          (λ z. by_eq (get_or headroom' (n + c) 0) 0
          (λ no.
          let none : get_or headroom' (n + j) 0 ≡ 0 = rw z at no in
          let on : member j (get_or columns' last 0) ≡ 1 = rw z at e in
          absurd (omega (arith, S.column none)))
          (λ some. omega arith))
          (λ ne.
          let s : get_or headroom' (n + c) 0 ≡ get_or headroom (n + c) 0 = rw S.cells (get_or-set_other rest (n + j) (n + c) y 0 (λ q. ne (omega arith)) ∙ get_or-set_other headroom i (n + c) (get_or headroom i 0 - x) 0 (λ q. omega (arith, C.row))) in
          omega (arith, s, R.ends c q (S.thinned.column last c e)));
    }

-- a column of the last layer
pub record CanWalk (n : ℕ) (bound a headroom offers takers rows columns : List ℕ) (e last : ℕ) : Type 0 where
  pub sides : Sides n bound a offers takers
  pub few : last ≤ n
  pub headrooms : 2 * n ≤ length headroom
  pub apart : Apart n columns last
  pub open_ends : OpenEnds n headroom rows columns last
  pub column : e < n
  pub in' : member e (get_or columns last 0) ≡ 1

-- something has gone along a path, or a node has left its layer; on the layers of a search something has gone
pub record Walked (n : ℕ) (bound a headroom offers takers rows columns a' headroom' offers' takers' rows' columns' : List ℕ) (last : ℕ) : Type 0 where
  pub sides : Sides n bound a' offers' takers'
  pub kept : SpansKept n a headroom a' headroom'
  pub apart : Apart n columns' last
  pub open_ends : OpenEnds n headroom' rows' columns' last
  pub most : row_headroom n headroom' ≤ row_headroom n headroom
  pub falls : row_headroom n headroom' + weight n rows' columns' last < row_headroom n headroom + weight n rows columns last
  pub first : Layered n offers takers rows columns last → row_headroom n headroom' < row_headroom n headroom

module _ {n : ℕ} {bound a headroom offers takers rows columns rows' columns' at' to' : List ℕ} {e last : ℕ} {r : Bool} (P : CanWalk n bound a headroom offers takers rows columns e last) (C : Climbed n offers takers rows columns rows' columns' at' to' e last r) where
  pub walked_none : r ≡ false → Walked n bound a headroom offers takers rows columns a headroom offers takers rows' columns' last
  walked_none none = record {
    sides = P.sides;
    kept = kept_none n a headroom;
    apart = thinned_apart C.thinned P.apart;
    open_ends = thinned_open C.thinned P.open_ends;
    most = omega arith;
    falls = omega (arith, C.falls none);
    first = λ L. absurd (false≢true (sym none ∙ C.sure L));
  }

  module _ (yes' : r ≡ true) where
    pub walk_passable : Passable n bound a headroom at' to' e last
    walk_passable =
        let path = C.path yes' in
        record {
          below = P.sides.below;
          path = path;
          passes = follows_passes P.sides path (C.follows yes');
          headrooms = P.headrooms;
          start = P.open_ends.starts (get_or at' 0 0) (path.row 0 (omega arith)) (C.thinned.row 0 (get_or at' 0 0) (C.start yes'));
          ending = P.open_ends.ends e P.column P.in';
          few = omega (arith, P.few, P.sides.below.cells.nodes);
        }

    module _ {x : ℕ} (K : Bottleneck n bound a headroom at' to' e last x) where
      pub walk_send : CanSend n bound a offers takers at' to' e last x
      walk_send = record {
        sides = P.sides;
        path = C.path yes';
        passes = K.passes;
        some = K.some;
        few = omega (arith, P.few, P.sides.below.cells.nodes);
      }

      pub walk_spend : CanSpend n headroom (get_or at' 0 0) e last x
      walk_spend = record {
        nodes = P.sides.below.cells.nodes;
        few = omega (arith, P.few, P.sides.below.cells.nodes);
        row = (C.path yes').row 0 (omega arith);
        column = P.column;
        headrooms = P.headrooms;
        start = K.start;
        ending = K.ending;
      }

      pub walked_sent : {a' offers' takers' headroom' rows'' columns'' : List ℕ} → Sent n bound a a' offers' takers' at' e x → Spent n headroom rows' columns' headroom' rows'' columns'' (get_or at' 0 0) e last x → Walked n bound a headroom offers takers rows columns a' headroom' offers' takers' rows'' columns'' last
      walked_sent {a'} {headroom' = headroom'} S E =
          let D = walk_spend in
          let T = thinned_join C.thinned E.thinned in
          let less : row_headroom n headroom' + x ≡ row_headroom n headroom = rw E.cells (spent_falls n a headroom a' (get_or at' 0 0) e x D.row D.column D.headrooms D.start D.ending) in
          record {
            sides = S.sides;
            kept = rw E.cells (kept_spent n a headroom a' (get_or at' 0 0) e x D.row D.column D.headrooms D.start D.ending S.sums);
            apart = thinned_apart T P.apart;
            open_ends = spent_open D (thinned_open C.thinned P.open_ends) E;
            most = omega (arith, less);
            falls = omega (arith, less, K.some, thinned_weight T n last);
            first = λ L. omega (arith, less, K.some);
          }

-- ---- walk after walk
-- something has gone, or the layers are still those of a search
pub record Draining (n : ℕ) (bound a₀ headroom₀ a headroom offers takers rows columns : List ℕ) (last : ℕ) : Type 0 where
  pub sides : Sides n bound a offers takers
  pub few : last ≤ n
  pub kept : SpansKept n a₀ headroom₀ a headroom
  pub apart : Apart n columns last
  pub open_ends : OpenEnds n headroom rows columns last
  pub begun : (row_headroom n headroom < row_headroom n headroom₀) ⊎ ((Layered n offers takers rows columns last) × (Meets n (get_or columns last 0) (get_or columns last 0)) × (row_headroom n headroom ≡ row_headroom n headroom₀))

module _ {n : ℕ} {bound a₀ headroom₀ a headroom offers takers rows columns : List ℕ} {last : ℕ} (D : Draining n bound a₀ headroom₀ a headroom offers takers rows columns last) {e : ℕ} (F : First (get_or columns last 0) e) where
  pub drain_walk : 2 * n ≤ length headroom → e < n → CanWalk n bound a headroom offers takers rows columns e last
  drain_walk headrooms lt = record {
    sides = D.sides;
    few = D.few;
    headrooms = headrooms;
    apart = D.apart;
    open_ends = D.open_ends;
    column = lt;
    in' = F.found (omega (arith, D.sides.below.cells.nodes));
  }

  pub drain_step : {a' headroom' offers' takers' rows' columns' : List ℕ} → Walked n bound a headroom offers takers rows columns a' headroom' offers' takers' rows' columns' last → Draining n bound a₀ headroom₀ a' headroom' offers' takers' rows' columns' last
  drain_step W = record {
    sides = W.sides;
    few = D.few;
    kept = kept_join D.kept W.kept;
    apart = W.apart;
    open_ends = W.open_ends;
    begun = inl (⊎_elim
        (λ (h : row_headroom n headroom < row_headroom n headroom₀). omega (arith, W.most))
        (λ (h : (Layered n offers takers rows columns last) × (Meets n (get_or columns last 0) (get_or columns last 0)) × (row_headroom n headroom ≡ row_headroom n headroom₀)). omega (arith, W.first h.0, h.2))
        D.begun);
  }

  -- what has gone along a path that was found is a walk
  pub drain_sent : 2 * n ≤ length headroom → e < n → {rows' columns' at to a' headroom' offers' takers' rows'' columns'' : List ℕ} {r : Bool} {i x : ℕ} → Climbed n offers takers rows columns rows' columns' at to e last r → r ≡ true → Bottleneck n bound a headroom at to e last x → Sent n bound a a' offers' takers' at (get_or to last 0) x → i ≡ get_or at 0 0 → Spent n headroom rows' columns' headroom' rows'' columns'' i e last x → Walked n bound a headroom offers takers rows columns a' headroom' offers' takers' rows'' columns'' last
  drain_sent headrooms lt C yes' K S first E = walked_sent (drain_walk headrooms lt) C yes' K (rw (C.path yes').end' at S) (rw first at E)
