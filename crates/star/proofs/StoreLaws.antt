-- One cell of a matrix is stored anew: the sums of its row and its column change by it, and no other line and no other cell does. By the law of a sum
-- that changes at one place. Assumes nothing.
use Prim.Native.Nat.{ℕ, ◌+◌, ◌-◌, ◌*◌, ◌≤◌, ◌<◌}
use native.Mathlib.Omega.{arith}
use mathlib.Core.Path.{◌≡◌, sym, ◌∙◌, ap}
use mathlib.Core.Logic.{⊎_elim, ◌⊎◌, inl, inr}
use mathlib.Core.List.{List}
use lib.ListN.{length, set}
use Rattle.sums.specs.Tables.{cell}
use Rattle.sums.proofs.Sums.{sum_ext, sum_update}
use Rattle.sums.proofs.Cases.{by_eq, by_lt}
use Rattle.sums.proofs.Tables.{cell_lt, set_here, set_row, set_col}
use Rattle.star.specs.Lines.{source_on, destination_on, on_line, line_sum, crossing}
use Rattle.star.proofs.LineLaws.{on_row, on_column, row_sum, column_sum, source_lt, destination_lt}
use Rattle.star.proofs.CrossingLaws.{source_row, source_column, destination_row, destination_column, crossing_row, crossing_column}

-- ---- by row and column
module _ (n : ℕ) (a : List ℕ) (i j v : ℕ) (hi : i < n) (hj : j < n) where
  pub store_line : (c u : ℕ) → c < 2 * n → u < n → (c ≡ i → ⊥) → (c ≡ n + j → ⊥) → on_line n (set a (i * n + j) v) c u ≡ on_line n a c u
  store_line c u hc hu ni nj =
      by_lt c n
      (λ p. on_row n (set a (i * n + j) v) c u p ∙ set_row n a i j v hj c u hu ni ∙ sym (on_row n a c u p))
      (λ p. on_column n (set a (i * n + j) v) c u p ∙ set_col n a i j v hj u (c - n) (omega arith) (λ e. nj (omega arith)) ∙ sym (on_column n a c u p))

  pub store_sum : (c : ℕ) → c < 2 * n → (c ≡ i → ⊥) → (c ≡ n + j → ⊥) → line_sum n (set a (i * n + j) v) c ≡ line_sum n a c
  unfolding line_sum
  store_sum c hc ni nj = sum_ext n _ _ (λ u hu. store_line c u hc hu ni nj)

  module _ (fits : n * n ≤ length a) where
    pub store_here : cell n (set a (i * n + j) v) i j ≡ v
    store_here = set_here n a i j v hj (omega (arith, cell_lt n i j hi hj))

    pub store_row : line_sum n (set a (i * n + j) v) i + cell n a i j ≡ line_sum n a i + v
    store_row =
        omega (
          arith,
          row_sum n (set a (i * n + j) v) i hi,
          row_sum n a i hi,
          store_here,
          sum_update n (λ y. cell n a i y) (λ y. cell n (set a (i * n + j) v) i y) j hj (λ y hy ne. set_col n a i j v hj i y hy ne),
        )

    pub store_column : line_sum n (set a (i * n + j) v) (n + j) + cell n a i j ≡ line_sum n a (n + j) + v
    store_column =
        omega (
          arith,
          column_sum n (set a (i * n + j) v) j,
          column_sum n a j,
          store_here,
          sum_update n (λ x. cell n a x j) (λ x. cell n (set a (i * n + j) v) x j) i hi (λ x hx ne. set_row n a i j v hj x j hj ne),
        )

    -- what stays below its bound
    pub store_below : (bound : List ℕ) → ((x y : ℕ) → x < n → y < n → cell n a x y ≤ cell n bound x y) → v ≤ cell n bound i j → (x y : ℕ) → x < n → y < n → cell n (set a (i * n + j) v) x y ≤ cell n bound x y
    store_below bound all most x y hx hy =
        by_eq x i
        (λ e. by_eq y j
        (λ f. rw (e, f, store_here) most)
        (λ f. omega (arith, set_col n a i j v hj x y hy f, all x y hx hy)))
        (λ e. omega (arith, set_row n a i j v hj x y hy e, all x y hx hy))

-- ---- by a line and its pair
-- a line is the row of its pair or the column, and the line that crosses it there the other
pub either_line : (n ℓ t : ℕ) → ℓ < 2 * n → ((ℓ ≡ source_on n ℓ t) × (crossing n ℓ t ≡ n + destination_on n ℓ t)) ⊎ ((ℓ ≡ n + destination_on n ℓ t) × (crossing n ℓ t ≡ source_on n ℓ t))
either_line n ℓ t hl =
    by_lt ℓ n
    (λ p. inl (sym (source_row n ℓ t p), crossing_row n ℓ t p ∙ ap (λ x. n + x) (sym (destination_row n ℓ t p))))
    (λ p. inr (omega (arith, destination_column n ℓ t p), crossing_column n ℓ t p ∙ sym (source_column n ℓ t p)))

module _ (n : ℕ) (a : List ℕ) (ℓ t v : ℕ) (hl : ℓ < 2 * n) (ht : t < n) where
  -- the other pairs of the line, and the cells off it
  pub along_other : (u : ℕ) → u < n → (u ≡ t → ⊥) → on_line n (set a (source_on n ℓ t * n + destination_on n ℓ t) v) ℓ u ≡ on_line n a ℓ u
  unfolding on_line
  along_other u hu ne =
      by_lt ℓ n
      (λ p. set_col n a (source_on n ℓ t) (destination_on n ℓ t) v (destination_lt n ℓ t hl ht) (source_on n ℓ u) (destination_on n ℓ u) (destination_lt n ℓ u hl hu)
      (λ e. ne (omega (arith, e, destination_row n ℓ t p, destination_row n ℓ u p))))
      (λ p. set_row n a (source_on n ℓ t) (destination_on n ℓ t) v (destination_lt n ℓ t hl ht) (source_on n ℓ u) (destination_on n ℓ u) (destination_lt n ℓ u hl hu)
      (λ e. ne (omega (arith, e, source_column n ℓ t p, source_column n ℓ u p))))

  pub along_off : (i j : ℕ) → j < n → (i ≡ ℓ → ⊥) → (n + j ≡ ℓ → ⊥) → cell n (set a (source_on n ℓ t * n + destination_on n ℓ t) v) i j ≡ cell n a i j
  along_off i j hj ni nj =
      by_lt ℓ n
      (λ p. set_row n a (source_on n ℓ t) (destination_on n ℓ t) v (destination_lt n ℓ t hl ht) i j hj (λ e. ni (omega (arith, e, source_row n ℓ t p))))
      (λ p. set_col n a (source_on n ℓ t) (destination_on n ℓ t) v (destination_lt n ℓ t hl ht) i j hj (λ e. nj (omega (arith, e, destination_column n ℓ t p))))

  -- the other lines
  pub apart_line : (c u : ℕ) → c < 2 * n → u < n → (c ≡ ℓ → ⊥) → (c ≡ crossing n ℓ t → ⊥) → on_line n (set a (source_on n ℓ t * n + destination_on n ℓ t) v) c u ≡ on_line n a c u
  apart_line c u hc hu nl nx =
      ⊎_elim
      (λ w. store_line n a _ _ v (source_lt n ℓ t hl ht) (destination_lt n ℓ t hl ht) c u hc hu (λ e. nl (e ∙ sym w.0)) (λ e. nx (e ∙ sym w.1)))
      (λ w. store_line n a _ _ v (source_lt n ℓ t hl ht) (destination_lt n ℓ t hl ht) c u hc hu (λ e. nx (e ∙ sym w.1)) (λ e. nl (e ∙ sym w.0)))
      (either_line n ℓ t hl)

  pub apart_sum : (c : ℕ) → c < 2 * n → (c ≡ ℓ → ⊥) → (c ≡ crossing n ℓ t → ⊥) → line_sum n (set a (source_on n ℓ t * n + destination_on n ℓ t) v) c ≡ line_sum n a c
  unfolding line_sum
  apart_sum c hc nl nx = sum_ext n _ _ (λ u hu. apart_line c u hc hu nl nx)

  module _ (fits : n * n ≤ length a) where
    pub along_here : on_line n (set a (source_on n ℓ t * n + destination_on n ℓ t) v) ℓ t ≡ v
    unfolding on_line
    along_here = store_here n a (source_on n ℓ t) (destination_on n ℓ t) v (source_lt n ℓ t hl ht) (destination_lt n ℓ t hl ht) fits

    -- the line and the line that crosses it there
    pub both_sums : (line_sum n (set a (source_on n ℓ t * n + destination_on n ℓ t) v) ℓ + on_line n a ℓ t ≡ line_sum n a ℓ + v) × (line_sum n (set a (source_on n ℓ t * n + destination_on n ℓ t) v) (crossing n ℓ t) + on_line n a ℓ t ≡ line_sum n a (crossing n ℓ t) + v)
    unfolding on_line
    both_sums =
        let i = source_on n ℓ t in
        let j = destination_on n ℓ t in
        let r = store_row n a i j v (source_lt n ℓ t hl ht) (destination_lt n ℓ t hl ht) fits in
        let c = store_column n a i j v (source_lt n ℓ t hl ht) (destination_lt n ℓ t hl ht) fits in
        ⊎_elim
        (λ w. (omega (arith, r, ap (line_sum n a) w.0, ap (line_sum n (set a (i * n + j) v)) w.0), omega (arith, c, ap (line_sum n a) w.1, ap (line_sum n (set a (i * n + j) v)) w.1)))
        (λ w. (omega (arith, c, ap (line_sum n a) w.0, ap (line_sum n (set a (i * n + j) v)) w.0), omega (arith, r, ap (line_sum n a) w.1, ap (line_sum n (set a (i * n + j) v)) w.1)))
        (either_line n ℓ t hl)
