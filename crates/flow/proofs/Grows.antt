-- A matrix grows: the sets are right at the start, and the layers of a search that reaches a column with headroom are such that something can go through
-- them. Assumes nothing.
use Prim.Native.Nat.{ℕ, min, ◌+◌, ◌*◌, ◌≤◌, ◌<◌}
use native.Mathlib.Omega.{arith}
use mathlib.Core.Path.{◌≡◌, ◌∙◌, ap}
use mathlib.Core.List.{List}
use lib.ListN.{length, get_or, replicate, get_or-replicate, length-replicate}
use Rattle.sums.specs.Tables.{cell}
use Rattle.sums.proofs.Cases.{by_eq}
use Rattle.nodes.specs.Sets.{member}
use Rattle.nodes.proofs.Members.{member_lt, member_none}
use Rattle.at_least.specs.AtLeast.{AtLeast}
use Rattle.growth.specs.Sides.{Sides, OpenLines}
use Rattle.layers.specs.Layers.{Found}
use Rattle.walks.specs.Walks.{CanDrain}
use Rattle.flow.specs.Grows.{Empty}

-- the rows that have headroom
row_open : {n s : ℕ} {headroom : List ℕ} → OpenLines n headroom 0 s → (i : ℕ) → i < n → member i s ≡ min 1 (get_or headroom i 0)
row_open {headroom = headroom} O i p = let e : 0 + i ≡ i = omega arith in O.members i p ∙ ap (λ k. min 1 (get_or headroom k 0)) e

-- ---- the start
-- the sets are right where nothing is given
pub empty_sides : {n : ℕ} {bound a headroom marks offers : List ℕ} → Empty n bound a headroom marks → AtLeast n bound 1 offers → n ≤ length offers → Sides n bound a offers (replicate 64 0)
empty_sides {n} {bound} {offers = offers} E L fits = record {
  below = E.below;
  columns = fits;
  rows = let len : length (replicate {A = ℕ} 64 0) ≡ 64 = length-replicate {A = ℕ} 64 0 in omega (arith, E.below.cells.nodes);
  more = λ i j p q.
      let z = E.zeros i j p q in
      by_eq (cell n bound i j) 0
      (λ e. by_eq (member i (get_or offers j 0)) 1
      (λ o. absurd (omega (arith, (L.all j q).out i p o)))
      (λ o. omega (arith, member_lt i (get_or offers j 0))))
      (λ e. omega (arith, (L.all j q).in' i p (omega arith)));
  less = λ i j p q.
      let few = E.below.cells.nodes in
      let z : member j (get_or (replicate 64 0) i 0) ≡ 0 = ap (member j) (get_or-replicate 64 i 0 0 (omega arith)) ∙ member_none j in
      omega (arith, z, E.zeros i j p q);
}

-- ---- search after search
-- a column with headroom is reached
pub found_drain : {n last roots goals : ℕ} {bound a headroom offers takers rows columns : List ℕ} → Sides n bound a offers takers → 2 * n ≤ length headroom → OpenLines n headroom 0 roots → OpenLines n headroom n goals → Found n offers takers rows columns roots goals last → CanDrain n bound a headroom offers takers rows columns last
found_drain S headrooms R G F = record {
  sides = S;
  few = F.few;
  headrooms = headrooms;
  apart = F.apart;
  open_ends = record {
    starts = λ i p e. omega (arith, F.starts i p e, row_open R i p);
    ends = λ j q e. omega (arith, F.ends j q e, G.members j q);
  };
  layered = F.layered;
  some = record { node = F.some.node; within = F.some.within; one = F.some.one; other = F.some.one };
}
