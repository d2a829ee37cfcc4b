-- The two matrices in one table: their cells, a store, and a table whose pairs get nothing more. The laws assume nothing.
use Prim.Native.Nat.{ℕ, ◌+◌, ◌-◌, ◌*◌, ◌/◌, ◌%◌, ◌≤◌, ◌<◌}
use native.Mathlib.Omega.{arith}
use mathlib.Core.Path.{◌≡◌, ap, ◌∙◌}
use mathlib.Core.List.{List, map}
use lib.ListN.{length, get_or, set, length-map, get_or-map}
use lib.Seq.{map-set_same}
use Rattle.std.proofs.lemmas.List.{map-set}
use Rattle.sums.specs.Tables.{cell}
use Rattle.sums.proofs.Tables.{square_ext}
use Rattle.cells.specs.Cells.{padded_in, kept_in, Gave, Took}

pub padded_length : (t : List ℕ) → length (padded_in t) ≡ length t
unfolding padded_in
padded_length t = length-map t (λ x. x / 65536)

pub padded_at : (t : List ℕ) (p : ℕ) → get_or (padded_in t) p 0 ≡ get_or t p 0 / 65536
unfolding padded_in
padded_at t p = get_or-map (λ x. x / 65536) t p 0

pub kept_at : (t : List ℕ) (p : ℕ) → get_or (kept_in t) p 0 ≡ get_or t p 0 % 65536
unfolding kept_in
kept_at t p = get_or-map (λ x. x % 65536) t p 0

pub padded_cell : (n : ℕ) (t : List ℕ) (i j : ℕ) → cell n (padded_in t) i j ≡ cell n t i j / 65536
unfolding cell
padded_cell n t i j = padded_at t (i * n + j)

pub kept_cell_lem : (n : ℕ) (t : List ℕ) (i j : ℕ) → cell n (kept_in t) i j ≡ cell n t i j % 65536
unfolding cell
kept_cell_lem n t i j = kept_at t (i * n + j)

-- a cell with h more, or h less, in its upper part
pub give_law : {n : ℕ} {x y : List ℕ} {i j h a : ℕ} → y ≡ set x (i * n + j) (a + h * 65536) → a ≡ cell n x i j → Gave n x y i j h
unfolding padded_in kept_in cell
give_law {n} {x} {i = i} {j = j} {h = h} {a = a} s e = rw s (record {
  padded = map-set (λ y. y / 65536) x (i * n + j) (a + h * 65536)
      ∙ ap (set (map (λ y. y / 65536) x) (i * n + j)) (omega (arith, padded_cell n x i j));
  kept = map-set_same (λ y. y % 65536) x (i * n + j) (a + h * 65536) 0 (omega arith);
})

pub take_law : {n : ℕ} {x y : List ℕ} {i j h a : ℕ} → y ≡ set x (i * n + j) (a - h * 65536) → a ≡ cell n x i j → h ≤ cell n (padded_in x) i j → Took n x y i j h
unfolding padded_in kept_in cell
take_law {n} {x} {i = i} {j = j} {h = h} {a = a} s e le = rw s (record {
  padded = map-set (λ y. y / 65536) x (i * n + j) (a - h * 65536)
      ∙ ap (set (map (λ y. y / 65536) x) (i * n + j)) (omega (arith, padded_cell n x i j));
  kept = map-set_same (λ y. y % 65536) x (i * n + j) (a - h * 65536) 0 (omega (arith, padded_cell n x i j));
})

-- where no pair gets any more, the table is the matrix of what they keep
pub nothing_left : {n : ℕ} {t kept : List ℕ} → length t ≡ n * n → length kept ≡ n * n → ((i j : ℕ) → i < n → j < n → cell n (kept_in t) i j ≡ cell n kept i j)
    → ((i j : ℕ) → i < n → j < n → cell n (padded_in t) i j ≡ 0) → t ≡ kept
nothing_left {n} {t} {kept} lt lk same none =
    square_ext n t kept lt lk (λ i j hi hj. omega (arith, same i j hi hj, none i j hi hj, padded_cell n t i j, kept_cell_lem n t i j))
