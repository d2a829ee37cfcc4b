-- What is sent along a path passes from line to line: at each step one column lacks it, and at the end the first row has it beyond. No column is on a path
-- twice, so the cells ahead are as they were found. Assumes nothing.
use Prim.Native.Nat.{ℕ, ◌+◌, ◌-◌, ◌*◌, ◌≤◌, ◌<◌}
use native.Mathlib.Omega.{arith}
use mathlib.Core.Path.{◌≡◌, ◌∙◌, ap}
use mathlib.Core.List.{List}
use lib.ListN.{get_or}
use Rattle.sums.specs.Tables.{cell}
use Rattle.sums.proofs.Cases.{by_eq}
use Rattle.sums.proofs.Tables.{set_else}
use Rattle.star.specs.Lines.{line_sum}
use Rattle.star.proofs.StoreLaws.{store_here}
use Rattle.growth.specs.Growth.{only}
use Rattle.growth.specs.Sides.{Sides, CanLess, More, Less}
use Rattle.growth.proofs.Giving.{more_sums, less_sums}
use Rattle.walks.specs.Paths.{Path, Follows, Passes, CanSend, Sent}

-- ---- how much can go
-- where the sets are right at least 1 can go along a path that follows them
pub follows_passes : {n : ℕ} {bound a offers takers at to : List ℕ} {e last : ℕ} → Sides n bound a offers takers → Path n at to e last → Follows offers takers at to last → Passes n bound a at to last 1
follows_passes {at = at} {to = to} S P F = record {
  more = λ m r.
      let hi = P.row m r in
      let hj = P.column m r in
      omega (arith, F.more m r, S.more (get_or at m 0) (get_or to m 0) hi hj, S.below.below (get_or at m 0) (get_or to m 0) hi hj);
  less = λ m r.
      let hi = P.row (m + 1) (omega arith) in
      let hj = P.column m (omega arith) in
      omega (arith, F.less m r, S.less (get_or at (m + 1) 0) (get_or to m 0) hi hj);
}

-- x is what both ends can take, the columns of the layers above k, and the rows below those above h
pub record Narrowing (n : ℕ) (bound a headroom at to : List ℕ) (e x k h : ℕ) : Type 0 where
  pub some : 0 < x
  pub start : x ≤ get_or headroom (get_or at 0 0) 0
  pub ending : x ≤ get_or headroom (n + e) 0
  pub more : (m : ℕ) → m < k → cell n a (get_or at m 0) (get_or to m 0) + x ≤ cell n bound (get_or at m 0) (get_or to m 0)
  pub less : (m : ℕ) → m < h → x ≤ cell n a (get_or at (m + 1) 0) (get_or to m 0)

-- ---- it goes
-- column to[k] lacks x; the columns of the layers above are as they were
pub record Sending (n : ℕ) (bound a₀ a offers takers at to : List ℕ) (e last x k : ℕ) : Type 0 where
  pub upto : k ≤ last
  pub sides : Sides n bound a offers takers
  pub sums : (ℓ : ℕ) → ℓ < 2 * n → line_sum n a ℓ + only ℓ (n + get_or to k 0) x ≡ line_sum n a₀ ℓ + only ℓ (n + e) x
  pub ahead : (m y : ℕ) → m < k → y < n → cell n a y (get_or to m 0) ≡ cell n a₀ y (get_or to m 0)
  pub here : (y : ℕ) → y < n → cell n a y (get_or to k 0) ≤ cell n a₀ y (get_or to k 0)

module _ {n : ℕ} {bound a₀ offers₀ takers₀ a offers takers at to : List ℕ} {e last x k : ℕ} (C : CanSend n bound a₀ offers₀ takers₀ at to e last x) (S : Sending n bound a₀ a offers takers at to e last x k) where
  hi : get_or at k 0 < n
  hi = C.path.row k S.upto

  hj : get_or to k 0 < n
  hj = C.path.column k S.upto

  module _ {a₁ offers₁ takers₁ : List ℕ} (M : More n bound a a₁ offers₁ takers₁ (get_or at k 0) (get_or to k 0) x) where
    more_line : (ℓ : ℕ) → ℓ < 2 * n → line_sum n a₁ ℓ ≡ line_sum n a ℓ + only ℓ (get_or at k 0) x + only ℓ (n + get_or to k 0) x
    more_line ℓ q = rw M.cells (more_sums n a (get_or at k 0) (get_or to k 0) x hi hj S.sides.below.cells.cells ℓ q)

    pub send_end : k ≡ 0 → Sent n bound a₀ a₁ offers₁ takers₁ at e x
    send_end z = record {
      sides = M.sides;
      sums = λ ℓ q. omega (arith, more_line ℓ q, S.sums ℓ q, ap (λ u. only ℓ (get_or at u 0) x) z);
    }

    module _ (p : ℕ) (up : p + 1 ≡ k) where
      hp : get_or to p 0 < n
      hp = C.path.column p (omega (arith, S.upto))

      ahead_now : (m y : ℕ) → m ≤ p → y < n → cell n a₁ y (get_or to m 0) ≡ cell n a₀ y (get_or to m 0)
      ahead_now m y r q =
          let hm : get_or to m 0 < n = C.path.column m (omega (arith, S.upto)) in
          let s : cell n a₁ y (get_or to m 0) ≡ cell n a y (get_or to m 0) = rw M.cells (set_else n a (get_or at k 0) (get_or to k 0) (cell n a (get_or at k 0) (get_or to k 0) + x) hj y (get_or to m 0) hm (λ _ g. C.path.once m k (omega arith) S.upto g)) in
          s ∙ S.ahead m y (omega arith) q

      pub send_less : CanLess n a₁ (get_or at k 0) (get_or to p 0) x
      send_less =
          let u = S.upto in
          let l : x ≤ cell n a₀ (get_or at k 0) (get_or to p 0) = rw up at (C.passes.less p (omega arith)) in
          record { row = hi; column = hp; some = C.some; most = omega (arith, l, ahead_now p (get_or at k 0) (omega arith) hi) }

      pub send_step : {a₂ offers₂ takers₂ : List ℕ} → Less n bound a₁ a₂ offers₂ takers₂ (get_or at k 0) (get_or to p 0) x → Sending n bound a₀ a₂ offers₂ takers₂ at to e last x p
      send_step {a₂} N =
          let u = S.upto in
          let v = cell n a₁ (get_or at k 0) (get_or to p 0) - x in
          let fits = M.sides.below.cells.cells in
          record {
            upto = omega arith;
            sides = N.sides;
            sums = λ ℓ q.
                let s : line_sum n a₂ ℓ + only ℓ (get_or at k 0) x + only ℓ (n + get_or to p 0) x ≡ line_sum n a₁ ℓ = rw N.cells (less_sums n a₁ (get_or at k 0) (get_or to p 0) x hi hp fits send_less.most ℓ q) in
                omega (arith, s, more_line ℓ q, S.sums ℓ q);
            ahead = λ m y r q.
                let hm : get_or to m 0 < n = C.path.column m (omega arith) in
                let s : cell n a₂ y (get_or to m 0) ≡ cell n a₁ y (get_or to m 0) = rw N.cells (set_else n a₁ (get_or at k 0) (get_or to p 0) v hp y (get_or to m 0) hm (λ _ g. C.path.once m p r (omega arith) g)) in
                s ∙ ahead_now m y (omega arith) q;
            here = λ y q.
                by_eq y (get_or at k 0)
                (λ z.
                let s : cell n a₂ (get_or at k 0) (get_or to p 0) ≡ v = rw N.cells (store_here n a₁ (get_or at k 0) (get_or to p 0) v hi hp fits) in
                rw z (omega (arith, s, ahead_now p (get_or at k 0) (omega arith) hi)))
                (λ z.
                let s : cell n a₂ y (get_or to p 0) ≡ cell n a₁ y (get_or to p 0) = rw N.cells (set_else n a₁ (get_or at k 0) (get_or to p 0) v hp y (get_or to p 0) hp (λ g _. z g)) in
                omega (arith, s, ahead_now p y (omega arith) q));
          }
