-- A path is found node by node, from its end up. A node that leads no further leaves its layer, and on layers of which each node was reached from the
-- layer before none does. Assumes nothing.
use Prim.Native.Nat.{ℕ, ◌+◌, ◌≤◌, ◌<◌}
use native.Mathlib.Omega.{arith}
use mathlib.Core.Path.{◌≡◌, refl, sym, ◌∙◌, ap}
use mathlib.Core.Bool.{true, false, false≢true}
use mathlib.Core.List.{List}
use lib.ListN.{length, get_or, set}
use lib.Seq.{get_or-set_same, get_or-set_other}
use Rattle.sums.proofs.Cases.{by_eq}
use Rattle.nodes.specs.Sets.{member}
use Rattle.layers.specs.Layers.{Layered}
use Rattle.walks.specs.Paths.{weight, FirstInBoth, LeftLayer, Thinned, CanClimb, Climbed}
use Rattle.walks.proofs.Thinning.{row_leaves, column_leaves, thinned_row, thinned_column, thinned_weight, thinned_apart}

-- columns of the path are known from layer k on, its rows from layer h on
pub record Climbing (n : ℕ) (offers takers columns at to : List ℕ) (e last k h : ℕ) : Type 0 where
  pub upto : k ≤ last
  pub end' : get_or to last 0 ≡ e
  pub column : (m : ℕ) → k ≤ m → m ≤ last → get_or to m 0 < n
  pub on : (m : ℕ) → k ≤ m → m ≤ last → member (get_or to m 0) (get_or columns m 0) ≡ 1
  pub row : (m : ℕ) → h ≤ m → m ≤ last → get_or at m 0 < n
  pub more : (m : ℕ) → h ≤ m → m ≤ last → member (get_or at m 0) (get_or offers (get_or to m 0) 0) ≡ 1
  pub less : (m : ℕ) → k ≤ m → m < last → member (get_or to m 0) (get_or takers (get_or at (m + 1) 0) 0) ≡ 1

module _ {n : ℕ} {offers takers columns at to : List ℕ} {e last k : ℕ} where
  -- the row of layer k
  climb_row : Climbing n offers takers columns at to e last k (k + 1) → (i : ℕ) → k < length at → i < n → member i (get_or offers (get_or to k 0) 0) ≡ 1 → Climbing n offers takers columns (set at k i) to e last k k
  climb_row C i fits hi gives = record {
    upto = C.upto;
    end' = C.end';
    column = C.column;
    on = C.on;
    row = λ m q r. by_eq m k
        (λ z. rw (z, get_or-set_same at k i 0 fits) hi)
        (λ z. rw (get_or-set_other at k m i 0 z) (C.row m (omega arith) r));
    more = λ m q r. by_eq m k
        (λ z. rw (z, get_or-set_same at k i 0 fits) gives)
        (λ z. rw (get_or-set_other at k m i 0 z) (C.more m (omega arith) r));
    less = λ m q r. rw (get_or-set_other at k (m + 1) i 0 (λ z. omega arith)) (C.less m q r);
  }

  -- the column of the layer above
  climb_column : Climbing n offers takers columns at to e last k k → (p g : ℕ) → p + 1 ≡ k → p < length to → g < n → member g (get_or columns p 0) ≡ 1 → member g (get_or takers (get_or at k 0) 0) ≡ 1 → Climbing n offers takers columns at (set to p g) e last p (p + 1)
  climb_column C p g up fits hg in' takes =
      let up' = C.upto in
      record {
        upto = omega arith;
        end' = get_or-set_other to p last g 0 (λ z. omega arith) ∙ C.end';
        column = λ m q r. by_eq m p
            (λ z. rw (z, get_or-set_same to p g 0 fits) hg)
            (λ z. rw (get_or-set_other to p m g 0 z) (C.column m (omega arith) r));
        on = λ m q r. by_eq m p
            (λ z. rw (z, get_or-set_same to p g 0 fits) in')
            (λ z. rw (get_or-set_other to p m g 0 z) (C.on m (omega arith) r));
        row = λ m q r. C.row m (omega arith) r;
        more = λ m q r. rw (get_or-set_other to p m g 0 (λ z. omega arith)) (C.more m (omega arith) r);
        less = λ m q r. by_eq m p
            (λ z. rw (z, get_or-set_same to p g 0 fits, up) takes)
            (λ z. rw (get_or-set_other to p m g 0 z) (C.less m (omega arith) r));
      }

  -- the row is not known after all
  climb_again : Climbing n offers takers columns at to e last k k → Climbing n offers takers columns at to e last k (k + 1)
  climb_again C = record { upto = C.upto; end' = C.end'; column = C.column; on = C.on; row = λ m q. C.row m (omega arith); more = λ m q. C.more m (omega arith); less = C.less }

  -- nor is the column, which has left
  climb_back : Climbing n offers takers columns at to e last k (k + 1) → k < last → {columns' : List ℕ} → ((m : ℕ) → (m ≡ k → ⊥) → get_or columns' m 0 ≡ get_or columns m 0) → Climbing n offers takers columns' at to e last (k + 1) (k + 1 + 1)
  climb_back C lt same = record {
    upto = omega arith;
    end' = C.end';
    column = λ m q. C.column m (omega arith);
    on = λ m q r. rw (same m (λ z. omega arith)) (C.on m (omega arith) r);
    row = λ m q. C.row m (omega arith);
    more = λ m q. C.more m (omega arith);
    less = λ m q. C.less m (omega arith);
  }

-- ---- the whole climb: the layers are thinned, and where each node was reached from the layer before they are not
pub record Climb (n : ℕ) (offers takers rows₀ columns₀ rows columns at to : List ℕ) (e last k : ℕ) : Type 0 where
  pub climbing : Climbing n offers takers columns at to e last k (k + 1)
  pub thinned : Thinned rows₀ columns₀ rows columns
  pub fresh : Layered n offers takers rows₀ columns₀ last → (rows ≡ rows₀) × (columns ≡ columns₀)

module _ {n : ℕ} {offers takers rows₀ columns₀ rows columns at to : List ℕ} {e last k : ℕ} (P : CanClimb n columns₀ e last) (C : Climb n offers takers rows₀ columns₀ rows columns at to e last k) where
  pub here : get_or to k 0 < n
  here = C.climbing.column k (omega arith) C.climbing.upto

  on_layer : member (get_or to k 0) (get_or columns k 0) ≡ 1
  on_layer = C.climbing.on k (omega arith) C.climbing.upto

  -- i is the first row of the layer that can give more to column j, which the path comes to
  module _ {j i : ℕ} (J : j ≡ get_or to k 0) (F : FirstInBoth (get_or offers j 0) (get_or rows k 0) i) where
    met : FirstInBoth (get_or offers (get_or to k 0) 0) (get_or rows k 0) i
    met = rw J at F

    -- ---- a column without a row
    module _ (fits : k < length columns) (none : n ≤ i) {columns' : List ℕ} (G : LeftLayer columns columns' k j) where
      left : LeftLayer columns columns' k (get_or to k 0)
      left = rw J at G

      no_row : Layered n offers takers rows₀ columns₀ last → ⊥
      no_row L =
          let s = C.fresh L in
          let on : member (get_or to k 0) (get_or columns₀ k 0) ≡ 1 = rw s.1 at on_layer in
          let m = L.column k (get_or to k 0) C.climbing.upto here on in
          let other : member m.node (get_or rows k 0) ≡ 1 = ap (λ z. member m.node (get_or z k 0)) s.0 ∙ m.other in
          met.before m.node (omega (arith, m.within)) m.one other

      pub column_falls : weight n rows columns' last < weight n rows columns last
      column_falls = column_leaves n rows C.climbing.upto here fits on_layer left

      pub climb_none : Climbed n offers takers rows₀ columns₀ rows columns' at to e last false
      climb_none = record {
        path = λ t. absurd (false≢true t);
        follows = λ t. absurd (false≢true t);
        start = λ t. absurd (false≢true t);
        thinned = thinned_column C.thinned fits left;
        falls = λ t. omega (arith, column_falls, thinned_weight C.thinned n last);
        sure = λ L. absurd (no_row L);
      }

    -- ---- a row of the layer
    module _ (fits : k < length at) (lt : i < n) where
      rowed : Climbing n offers takers columns (set at k i) to e last k k
      rowed = climb_row C.climbing i fits lt (met.one (omega (arith, P.nodes)))

      in_layer : member i (get_or rows k 0) ≡ 1
      in_layer = met.other (omega (arith, P.nodes))

      -- the first layer's
      pub climb_end : k ≡ 0 → Climbed n offers takers rows₀ columns₀ rows columns (set at k i) to e last true
      climb_end z =
          let A = thinned_apart C.thinned P.apart in
          record {
            path = λ t. record {
              end' = rowed.end';
              row = λ m r. rowed.row m (omega arith) r;
              column = λ m r. rowed.column m (omega arith) r;
              once = λ m p q r s.
                  let f : member (get_or to m 0) (get_or columns p 0) ≡ 1 = rw s (rowed.on p (omega arith) r) in
                  A.apart m p (get_or to m 0) q r (rowed.column m (omega arith) (omega arith)) (rowed.on m (omega arith) (omega arith)) f;
            };
            follows = λ t. record { more = λ m r. rowed.more m (omega arith) r; less = λ m r. rowed.less m (omega arith) r };
            start = λ t.
                let s : get_or (set at k i) 0 0 ≡ i = ap (λ u. get_or (set at k i) u 0) (sym z) ∙ get_or-set_same at k i 0 fits in
                let u : member i (get_or rows 0 0) ≡ 1 = rw z at in_layer in
                rw s u;
            thinned = C.thinned;
            falls = λ t. absurd (false≢true (sym t));
            sure = λ L. refl;
          }

      module _ {g : ℕ} (p : ℕ) (up : p + 1 ≡ k) (H : FirstInBoth (get_or takers i 0) (get_or columns p 0) g) where
        -- it takes from no column of the layer above
        module _ (fits' : k < length rows) (none : n ≤ g) {rows' : List ℕ} (G : LeftLayer rows rows' k i) where
          no_column : Layered n offers takers rows₀ columns₀ last → ⊥
          no_column L =
              let s = C.fresh L in
              let on : member i (get_or rows₀ k 0) ≡ 1 = rw s.0 at in_layer in
              let m = L.row p i (omega (arith, C.climbing.upto)) lt (rw up on) in
              let other : member m.node (get_or columns p 0) ≡ 1 = ap (λ z. member m.node (get_or z p 0)) s.1 ∙ m.other in
              H.before m.node (omega (arith, m.within)) m.one other

          pub row_falls : weight n rows' columns last < weight n rows columns last
          row_falls = row_leaves n columns C.climbing.upto lt fits' in_layer G

          pub climb_beside : Climb n offers takers rows₀ columns₀ rows' columns (set at k i) to e last k
          climb_beside = record {
            climbing = climb_again rowed;
            thinned = thinned_row C.thinned fits' G;
            fresh = λ L. absurd (no_column L);
          }

        -- it takes from one
        pub climb_up : p < length to → g < n → Climb n offers takers rows₀ columns₀ rows columns (set at k i) (set to p g) e last p
        climb_up fits' lt' =
            let few' = P.nodes in
            let s : get_or (set at k i) k 0 ≡ i = get_or-set_same at k i 0 fits in
            record {
              climbing = climb_column rowed p g up fits' lt' (H.other (omega arith)) (rw s (H.one (omega arith)));
              thinned = C.thinned;
              fresh = C.fresh;
            }
