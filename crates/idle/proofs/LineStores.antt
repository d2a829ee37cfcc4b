-- A cell and its two lines: a cell is at most the sum of each, and a change of one cell moves both sums alike. The laws assume nothing.
use mathlib.Core.Path.{◌≡◌, sym, ap, ◌∙◌}
use mathlib.Core.List.{List}
use Prim.Native.Nat.{ℕ, ◌+◌, ◌-◌, ◌*◌, ◌/◌, ◌%◌, ◌≤◌, ◌<◌}
use native.Mathlib.Omega.{arith}
use lib.ListN.{get_or}
use Rattle.sums.specs.Sums.{hit}
use Rattle.sums.specs.Tables.{cell}
use Rattle.sums.proofs.Sums.{sum_ext, sum_bump, hit_same, hit_other}
use Rattle.sums.proofs.Cases.{by_eq, by_lt}
use Rattle.sums.proofs.Tables.{place_split}
use Rattle.star.specs.Lines.{line_sum}
use Rattle.star.proofs.LineLaws.{row_sum, column_sum, cell_in_row}

-- what stands at a place is at most the sum of its row
pub place_row_sum : (n : ℕ) (v : List ℕ) (p : ℕ) (b : ℕ) → ((ℓ : ℕ) → ℓ < 2 * n → line_sum n v ℓ ≤ b) → p < n * n → get_or v p 0 ≤ b
unfolding cell
place_row_sum n v p b all lt =
    let q = place_split n p lt in
    omega (arith, ap (λ (x : ℕ). get_or v x 0) q.1.1, cell_in_row n v (p / n) (p % n) q.0 q.1.0, all (p / n) (omega (arith, q.0)))

-- one cell has g more
module _ (n : ℕ) (v w : List ℕ) (i j g : ℕ) (hi : i < n) (hj : j < n)
    (here : cell n w i j ≡ cell n v i j + g)
    (rows : (a b : ℕ) → a < n → b < n → (a ≡ i → ⊥) → cell n w a b ≡ cell n v a b)
    (columns : (a b : ℕ) → a < n → b < n → (b ≡ j → ⊥) → cell n w a b ≡ cell n v a b) where
  row_more : (ℓ : ℕ) → ℓ < n → line_sum n w ℓ ≡ line_sum n v ℓ + g * hit i ℓ
  row_more ℓ hl =
      by_eq i ℓ
      (λ e.
      let one : hit i ℓ ≡ 1 = hit_same e in
      rw one
      (omega (
        arith,
        row_sum n v ℓ hl,
        row_sum n w ℓ hl,
        sum_bump n j g (λ u. cell n v ℓ u) (λ u. cell n w ℓ u) hj (rw (sym e) here) (λ u hu ne. columns ℓ u hl hu ne),
      )))
      (λ ne.
      let none : hit i ℓ ≡ 0 = hit_other ne in
      rw none
      (omega (
        arith,
        row_sum n v ℓ hl,
        row_sum n w ℓ hl,
        sum_ext n (λ u. cell n w ℓ u) (λ u. cell n v ℓ u) (λ u hu. rows ℓ u hl hu (λ q. ne (sym q))),
      )))

  column_more : (u : ℕ) → u < n → line_sum n w (n + u) ≡ line_sum n v (n + u) + g * hit j u
  column_more u hu =
      by_eq j u
      (λ e.
      let one : hit j u ≡ 1 = hit_same e in
      rw one
      (omega (
        arith,
        column_sum n v u,
        column_sum n w u,
        sum_bump n i g (λ a. cell n v a u) (λ a. cell n w a u) hi (rw (sym e) here) (λ a ha ne. rows a u ha hu ne),
      )))
      (λ ne.
      let none : hit j u ≡ 0 = hit_other ne in
      rw none
      (omega (
        arith,
        column_sum n v u,
        column_sum n w u,
        sum_ext n (λ a. cell n w a u) (λ a. cell n v a u) (λ a ha. columns a u ha hu (λ q. ne (sym q))),
      )))

  pub line_more : (ℓ : ℕ) → ℓ < 2 * n → line_sum n w ℓ ≡ line_sum n v ℓ + g * (hit i ℓ + hit (n + j) ℓ)
  line_more ℓ hl =
      by_lt ℓ n
      (λ lt.
      let none : hit (n + j) ℓ ≡ 0 = hit_other (λ e. omega arith) in
      rw none (row_more ℓ lt ∙ omega arith))
      (λ le.
      let e : n + (ℓ - n) ≡ ℓ = omega arith in
      let none : hit i ℓ ≡ 0 = hit_other (λ q. omega arith) in
      let same : hit (n + j) ℓ ≡ hit j (ℓ - n) =
      by_eq j (ℓ - n)
      (λ q. hit_same {a = n + j} {b = ℓ} (omega arith) ∙ sym (hit_same q))
      (λ ne. hit_other {a = n + j} {b = ℓ} (λ q. ne (omega arith)) ∙ sym (hit_other ne)) in
      rw (none, same) (rw e at (column_more (ℓ - n) (omega arith)) ∙ omega arith))
