-- A cell changes, the sets change with it, and the sums of its two lines. Assumes nothing.
use Prim.Native.Nat.{ℕ, min, ◌+◌, ◌-◌, ◌*◌, ◌≤◌, ◌<◌}
use native.Mathlib.Omega.{arith}
use mathlib.Core.Path.{◌≡◌, refl, sym, ◌∙◌, ap}
use mathlib.Core.List.{List}
use lib.ListN.{length, get_or, set, length-set}
use borrow.Author.Tests.{eq-eqb, ne_eqb}
use Rattle.sums.specs.Sums.{gate}
use Rattle.sums.specs.Tables.{cell}
use Rattle.sums.proofs.Cases.{by_eq}
use Rattle.sums.proofs.Tables.{set_else}
use Rattle.star.specs.Lines.{line_sum}
use Rattle.star.proofs.StoreLaws.{store_row, store_column, store_sum, store_below, store_here}
use Rattle.nodes.specs.Sets.{member, With, Without}
use Rattle.growth.specs.Growth.{only}
use Rattle.growth.specs.Sides.{Sides, CanMore, CanLess, More, Less}
use Rattle.growth.proofs.SetLaws.{set_member_here, set_member_off}

pub only_same : (ℓ t x : ℕ) → ℓ ≡ t → only ℓ t x ≡ x
unfolding only
only_same ℓ t x e = ap (λ b. gate b x) (eq-eqb ℓ t e)

pub only_other : (ℓ t x : ℕ) → (ℓ ≡ t → ⊥) → only ℓ t x ≡ 0
unfolding only
only_other ℓ t x e = ap (λ b. gate b x) (ne_eqb ℓ t e)

-- ---- the sums
module _ (n : ℕ) (a : List ℕ) (i j x : ℕ) (hi : i < n) (hj : j < n) (fits : n * n ≤ length a) where
  pub more_sums : (ℓ : ℕ) → ℓ < 2 * n → line_sum n (set a (i * n + j) (cell n a i j + x)) ℓ ≡ line_sum n a ℓ + only ℓ i x + only ℓ (n + j) x
  more_sums ℓ q =
      by_eq ℓ i
      (λ e. omega (arith, ap (line_sum n a) e, ap (line_sum n (set a (i * n + j) (cell n a i j + x))) e, store_row n a i j (cell n a i j + x) hi hj fits, only_same ℓ i x e, only_other ℓ (n + j) x (λ s. omega arith)))
      (λ ni. by_eq ℓ (n + j)
      (λ e. omega (arith, ap (line_sum n a) e, ap (line_sum n (set a (i * n + j) (cell n a i j + x))) e, store_column n a i j (cell n a i j + x) hi hj fits, only_same ℓ (n + j) x e, only_other ℓ i x ni))
      (λ nj. omega (arith, store_sum n a i j (cell n a i j + x) hi hj ℓ q ni nj, only_other ℓ i x ni, only_other ℓ (n + j) x nj)))

  pub less_sums : x ≤ cell n a i j → (ℓ : ℕ) → ℓ < 2 * n → line_sum n (set a (i * n + j) (cell n a i j - x)) ℓ + only ℓ i x + only ℓ (n + j) x ≡ line_sum n a ℓ
  less_sums most ℓ q =
      by_eq ℓ i
      (λ e. omega (arith, ap (line_sum n a) e, ap (line_sum n (set a (i * n + j) (cell n a i j - x))) e, store_row n a i j (cell n a i j - x) hi hj fits, only_same ℓ i x e, only_other ℓ (n + j) x (λ s. omega arith)))
      (λ ni. by_eq ℓ (n + j)
      (λ e. omega (arith, ap (line_sum n a) e, ap (line_sum n (set a (i * n + j) (cell n a i j - x))) e, store_column n a i j (cell n a i j - x) hi hj fits, only_same ℓ (n + j) x e, only_other ℓ i x ni))
      (λ nj. omega (arith, store_sum n a i j (cell n a i j - x) hi hj ℓ q ni nj, only_other ℓ i x ni, only_other ℓ (n + j) x nj)))

-- ---- the sets
module _ (n : ℕ) (bound a offers takers offers₁ takers₁ : List ℕ) (i j v : ℕ) (hi : i < n) (hj : j < n) (S : Sides n bound a offers takers) where
  -- only what concerns row i and column j changed, and it is right
  pub sides_again : v ≤ cell n bound i j → length offers₁ ≡ length offers → length takers₁ ≡ length takers → ((k m : ℕ) → (k ≡ j → m ≡ i → ⊥) → member m (get_or offers₁ k 0) ≡ member m (get_or offers k 0)) → ((k m : ℕ) → (k ≡ i → m ≡ j → ⊥) → member m (get_or takers₁ k 0) ≡ member m (get_or takers k 0)) → member i (get_or offers₁ j 0) ≡ min 1 (cell n bound i j - v) → member j (get_or takers₁ i 0) ≡ min 1 v → Sides n bound (set a (i * n + j) v) offers₁ takers₁
  sides_again most lo lt offo offt hereo heret =
      let fits = S.below.cells.cells in
      let len : length (set a (i * n + j) v) ≡ length a = simp length-set in
      record {
        below = record {
          bounds = S.below.bounds;
          cells = record { nodes = S.below.cells.nodes; cells = omega (arith, len, fits) };
          below = store_below n a i j v hi hj fits bound S.below.below most;
        };
        columns = omega (arith, S.columns);
        rows = omega (arith, S.rows);
        more = λ r c p q.
            by_eq r i
            (λ e. by_eq c j
            (λ f. rw (e, f, store_here n a i j v hi hj fits) hereo)
            (λ f. offo c r (λ g _. f g) ∙ S.more r c p q ∙ ap (λ z. min 1 (cell n bound r c - z)) (sym (set_else n a i j v hj r c q (λ _ g. f g)))))
            (λ e. offo c r (λ _ g. e g) ∙ S.more r c p q ∙ ap (λ z. min 1 (cell n bound r c - z)) (sym (set_else n a i j v hj r c q (λ g _. e g))));
        less = λ r c p q.
            by_eq r i
            (λ e. by_eq c j
            (λ f. rw (e, f, store_here n a i j v hi hj fits) heret)
            (λ f. offt r c (λ _ g. f g) ∙ S.less r c p q ∙ ap (min 1) (sym (set_else n a i j v hj r c q (λ _ g. f g)))))
            (λ e. offt r c (λ g _. e g) ∙ S.less r c p q ∙ ap (min 1) (sym (set_else n a i j v hj r c q (λ g _. e g))));
      }

-- ---- one row gives one column more
module _ (n : ℕ) (bound a offers takers : List ℕ) (i j x w : ℕ) (S : Sides n bound a offers takers) (C : CanMore n bound a i j x) (W : With (get_or takers i 0) j w) where
  taker_fits : i < length takers
  taker_fits = omega (arith, S.rows, C.row)

  -- and its bound is not reached
  pub more_open : cell n a i j + x < cell n bound i j → More n bound a (set a (i * n + j) (cell n a i j + x)) offers (set takers i w) i j x
  more_open lt = record {
    cells = refl;
    sides = sides_again n bound a offers takers offers (set takers i w) i j (cell n a i j + x) C.row C.column S C.most refl (simp length-set)
        (λ k m no. refl)
        (set_member_off takers i j w taker_fits W.other)
        (omega (arith, S.more i j C.row C.column))
        (omega (arith, set_member_here takers i j w taker_fits, W.here, C.some));
  }

  -- or it is
  pub more_full : (u : ℕ) → Without (get_or offers j 0) i u → cell n bound i j ≤ cell n a i j + x → More n bound a (set a (i * n + j) (cell n a i j + x)) (set offers j u) (set takers i w) i j x
  more_full u U le =
      let fits : j < length offers = omega (arith, S.columns, C.column) in
      record {
        cells = refl;
        sides = sides_again n bound a offers takers (set offers j u) (set takers i w) i j (cell n a i j + x) C.row C.column S C.most (simp length-set) (simp length-set)
            (set_member_off offers j i u fits U.other)
            (set_member_off takers i j w taker_fits W.other)
            (omega (arith, set_member_here offers j i u fits, U.here))
            (omega (arith, set_member_here takers i j w taker_fits, W.here, C.some));
      }

-- ---- and less
module _ (n : ℕ) (bound a offers takers : List ℕ) (i j x w : ℕ) (S : Sides n bound a offers takers) (C : CanLess n a i j x) (W : With (get_or offers j 0) i w) where
  offer_fits : j < length offers
  offer_fits = omega (arith, S.columns, C.column)

  pub less_some : 0 < cell n a i j - x → Less n bound a (set a (i * n + j) (cell n a i j - x)) (set offers j w) takers i j x
  less_some lt =
      let b = S.below.below i j C.row C.column in
      record {
        cells = refl;
        sides = sides_again n bound a offers takers (set offers j w) takers i j (cell n a i j - x) C.row C.column S (omega arith) (simp length-set) refl
            (set_member_off offers j i w offer_fits W.other)
            (λ k m no. refl)
            (omega (arith, set_member_here offers j i w offer_fits, W.here, C.some, C.most))
            (omega (arith, S.less i j C.row C.column));
      }

  pub less_none : (u : ℕ) → Without (get_or takers i 0) j u → cell n a i j - x ≡ 0 → Less n bound a (set a (i * n + j) (cell n a i j - x)) (set offers j w) (set takers i u) i j x
  less_none u U z =
      let b = S.below.below i j C.row C.column in
      let fits : i < length takers = omega (arith, S.rows, C.row) in
      record {
        cells = refl;
        sides = sides_again n bound a offers takers (set offers j w) (set takers i u) i j (cell n a i j - x) C.row C.column S (omega arith) (simp length-set) (simp length-set)
            (set_member_off offers j i w offer_fits W.other)
            (set_member_off takers i j u fits U.other)
            (omega (arith, set_member_here offers j i w offer_fits, W.here, C.some, C.most))
            (omega (arith, set_member_here takers i j u fits, U.here));
      }
