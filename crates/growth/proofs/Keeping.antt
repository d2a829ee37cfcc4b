-- Steps that keep what each line has and may still take. Assumes nothing.
use Prim.Native.Nat.{ℕ, zero, suc, ◌+◌, ◌-◌, ◌*◌, ◌≤◌, ◌<◌}
use native.Mathlib.Omega.{arith}
use mathlib.Core.Path.{◌≡◌, refl, sym, ◌∙◌, ap}
use mathlib.Core.List.{List, [], ◌∷◌}
use lib.ListN.{length, get_or, set, length-set}
use lib.Seq.{get_or-set_same, get_or-set_other}
use Rattle.sums.proofs.Cases.{by_eq}
use Rattle.sums.proofs.Sums.{sum_update}
use Rattle.star.specs.Lines.{line_sum}
use Rattle.growth.specs.Growth.{span, only, row_headroom, SpansKept}
use Rattle.growth.specs.Sides.{Sides, More, Grew, GrewAt}
use Rattle.growth.proofs.Giving.{only_same, only_other, more_sums}

pub kept_none : (n : ℕ) (a headroom : List ℕ) → SpansKept n a headroom a headroom
kept_none n a headroom = record { spans = λ ℓ q. refl }

pub kept_join : {n : ℕ} {a headroom a₁ headroom₁ a₂ headroom₂ : List ℕ} → SpansKept n a headroom a₁ headroom₁ → SpansKept n a₁ headroom₁ a₂ headroom₂ → SpansKept n a headroom a₂ headroom₂
kept_join k l = record { spans = λ ℓ q. l.spans ℓ q ∙ k.spans ℓ q }

-- ---- headroom that is written as it was
pub set_same : (l : List ℕ) (p : ℕ) → set l p (get_or l p 0) ≡ l
set_same [] p = refl
set_same (x ∷ l) zero = refl
set_same (x ∷ l) (suc p) = ap (λ (m : List ℕ). x ∷ m) (set_same l p)

-- row i and column j have x more, and x less headroom; the column's headroom is `want`
module _ (n : ℕ) (a headroom a' : List ℕ) (i j want x : ℕ) (hi : i < n) (hj : j < n) (headrooms : 2 * n ≤ length headroom) (row : x ≤ get_or headroom i 0) (column : x ≤ want) where
  pub kept_given : ((ℓ : ℕ) → ℓ < 2 * n → line_sum n a' ℓ ≡ line_sum n a ℓ + only ℓ i x + only ℓ (n + j) x) → SpansKept n a (set headroom (n + j) want) a' (set (set headroom i (get_or headroom i 0 - x)) (n + j) (want - x))
  unfolding span
  kept_given sums =
      let rest = set headroom i (get_or headroom i 0 - x) in
      let len : length (set headroom i (get_or headroom i 0 - x)) ≡ length headroom = simp length-set in
      record {
        spans = λ ℓ q. by_eq ℓ i
            (λ e.
            let s = sums ℓ q in
            let o1 = only_same ℓ i x e in
            let o2 = only_other ℓ (n + j) x (λ s. omega arith) in
            let p1 = get_or-set_other rest (n + j) ℓ (want - x) 0 (λ s. omega arith) in
            let p2 = get_or-set_other headroom (n + j) ℓ want 0 (λ s. omega arith) in
            let p3 = get_or-set_same headroom i (get_or headroom i 0 - x) 0 (omega arith) in
            let p4 = ap (λ z. get_or rest z 0) e in
            let p5 = ap (λ z. get_or headroom z 0) e in
            omega (arith, s, o1, o2, p1, p2, p3, p4, p5))
            (λ ni. by_eq ℓ (n + j)
            (λ e.
            let s = sums ℓ q in
            let o1 = only_other ℓ i x ni in
            let o2 = only_same ℓ (n + j) x e in
            let p1 = get_or-set_same rest (n + j) (want - x) 0 (omega (arith, len)) in
            let p2 = get_or-set_same headroom (n + j) want 0 (omega arith) in
            let p3 = ap (λ z. get_or (set rest (n + j) (want - x)) z 0) e in
            let p4 = ap (λ z. get_or (set headroom (n + j) want) z 0) e in
            omega (arith, s, o1, o2, p1, p2, p3, p4))
            (λ nj.
            let s = sums ℓ q in
            let o1 = only_other ℓ i x ni in
            let o2 = only_other ℓ (n + j) x nj in
            let p1 = get_or-set_other rest (n + j) ℓ (want - x) 0 nj in
            let p2 = get_or-set_other headroom i ℓ (get_or headroom i 0 - x) 0 ni in
            let p3 = get_or-set_other headroom (n + j) ℓ want 0 nj in
            omega (arith, s, o1, o2, p1, p2, p3)));
      }

-- the same where the column's headroom is the one in the table
module _ (n : ℕ) (a headroom a' : List ℕ) (i j x : ℕ) (hi : i < n) (hj : j < n) (headrooms : 2 * n ≤ length headroom) (row : x ≤ get_or headroom i 0) (column : x ≤ get_or headroom (n + j) 0) where
  pub headroom_left : get_or (set headroom i (get_or headroom i 0 - x)) (n + j) 0 ≡ get_or headroom (n + j) 0
  headroom_left = get_or-set_other headroom i (n + j) (get_or headroom i 0 - x) 0 (λ e. omega arith)

  pub kept_spent : ((ℓ : ℕ) → ℓ < 2 * n → line_sum n a' ℓ ≡ line_sum n a ℓ + only ℓ i x + only ℓ (n + j) x) → SpansKept n a headroom a' (set (set headroom i (get_or headroom i 0 - x)) (n + j) (get_or (set headroom i (get_or headroom i 0 - x)) (n + j) 0 - x))
  kept_spent sums =
      kept_join
      (rw (headroom_left, set_same headroom (n + j)) (kept_none n a headroom))
      (kept_given n a headroom a' i j (get_or (set headroom i (get_or headroom i 0 - x)) (n + j) 0) x hi hj headrooms row (omega (arith, headroom_left)) sums)

  pub spent_falls : row_headroom n (set (set headroom i (get_or headroom i 0 - x)) (n + j) (get_or (set headroom i (get_or headroom i 0 - x)) (n + j) 0 - x)) + x ≡ row_headroom n headroom
  unfolding row_headroom
  spent_falls =
      let rest = set headroom i (get_or headroom i 0 - x) in
      omega (
        arith,
        get_or-set_other rest (n + j) i (get_or rest (n + j) 0 - x) 0 (λ e. omega arith),
        get_or-set_same headroom i (get_or headroom i 0 - x) 0 (omega arith),
        sum_update n (λ k. get_or headroom k 0) (λ k. get_or (set rest (n + j) (get_or rest (n + j) 0 - x)) k 0) i hi
            (λ k q ne. get_or-set_other rest (n + j) k (get_or rest (n + j) 0 - x) 0 (λ e. omega arith) ∙ get_or-set_other headroom i k (get_or headroom i 0 - x) 0 ne),
      )

-- ---- row i gives column j what it wants at most: nothing, or something
pub only_none : (ℓ t : ℕ) → only ℓ t 0 ≡ 0
only_none ℓ t = by_eq ℓ t (only_same ℓ t 0) (only_other ℓ t 0)

pub grew_at_none : {n : ℕ} {bound a offers takers : List ℕ} (headroom : List ℕ) (i j want : ℕ) → Sides n bound a offers takers → GrewAt n bound a headroom a headroom offers takers i j want 0
grew_at_none {n} headroom i j want s = record {
  sides = s;
  most = omega arith;
  row = omega arith;
  headrooms = let z : get_or headroom i 0 - 0 ≡ get_or headroom i 0 = omega arith in rw z (sym (set_same headroom i));
  sums = λ ℓ q. omega (arith, only_none ℓ i, only_none ℓ (n + j));
}

pub grew_at_some : {n : ℕ} {bound a a' offers takers offers' takers' : List ℕ} {i j x : ℕ} (headroom : List ℕ) (want : ℕ) → i < n → j < n → Sides n bound a offers takers → x ≤ get_or headroom i 0 → x ≤ want → More n bound a a' offers' takers' i j x → GrewAt n bound a headroom a' (set headroom i (get_or headroom i 0 - x)) offers' takers' i j want x
grew_at_some {n} {bound} {a} {i = i} {j = j} {x = x} headroom want hi hj s row most m = record {
  sides = m.sides;
  most = most;
  row = row;
  headrooms = refl;
  sums = rw m.cells (more_sums n a i j x hi hj s.below.cells.cells);
}

-- and the column wants as much less
pub grew_given : {n : ℕ} {bound a₀ headroom₀ a headroom offers takers a' headroom' offers' takers' : List ℕ} {i j want x : ℕ} → i < n → j < n → 2 * n ≤ length headroom → Grew n bound a₀ headroom₀ a (set headroom (n + j) want) offers takers → GrewAt n bound a headroom a' headroom' offers' takers' i j want x → Grew n bound a₀ headroom₀ a' (set headroom' (n + j) (want - x)) offers' takers'
grew_given {n} {a = a} {headroom = headroom} {a' = a'} {i = i} {j = j} {want = want} {x = x} hi hj headrooms g at = record {
  sides = at.sides;
  kept = rw at.headrooms (kept_join g.kept (kept_given n a headroom a' i j want x hi hj headrooms at.row at.most at.sums));
}
