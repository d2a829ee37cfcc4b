-- Cells of a table in a list: their places, tables made by a rule, stores, and a lent table whose first cells are new. The laws assume nothing.
use Prim.Native.Nat.{ℕ, zero, suc, ◌+◌, ◌*◌, ◌/◌, ◌%◌, ◌≤◌, ◌<◌}
use native.Mathlib.Nat.{mul-le-mul, mod-lt, div-add-mod', div-lt_iff_lt-mul}
use native.Mathlib.Numerals.{add-one}
use native.Mathlib.Omega.{arith}
use mathlib.Core.Path.{◌≡◌, refl, sym, ◌∙◌, ap}
use mathlib.Core.Logic.{◌⊎◌, inl, inr}
use mathlib.Core.List.{List, [], ◌∷◌, ◌++◌, append_assoc}
use lib.Arith.{digits_lt, digits_div, digits_mod}
use lib.ListN.{length, get_or, take, drop, set, replicate, length-append, length-drop, get_or-append}
use lib.Seq.{drop-cons, set_at, ext_get_or, get_or-set_same, get_or-set_other, get_or-append_seam, get_or-take, drop_at, take_at}
use Rattle.sums.specs.Tables.{cell, tab, square, written}
use Rattle.sums.proofs.Cases.{by_eq}

-- ---- places
-- 64 nodes have at most 4,096 cells
pub mul_small : (a b : ℕ) → a ≤ 64 → b ≤ 64 → a * b ≤ 4096
mul_small a b p q = mul-le-mul p q

pub cell_lt : (n i j : ℕ) → i < n → j < n → i * n + j < n * n
cell_lt n i j p q = digits_lt p q

-- a place is of one row and one column
pub place_row : (n k m v j : ℕ) → v < n → j < n → k * n + v ≡ m * n + j → k ≡ m
place_row n k m v j hv hj e = sym (digits_div k hv) ∙ ap (λ (x : ℕ). x / n) e ∙ digits_div m hj

pub place_col : (n k m v j : ℕ) → v < n → j < n → k * n + v ≡ m * n + j → v ≡ j
place_col n k m v j hv hj e = sym (digits_mod k hv) ∙ ap (λ (x : ℕ). x % n) e ∙ digits_mod m hj

-- ---- a list made by a rule
module _ {A : Type 0} (f : ℕ → A) where
  pub length_tab : (m : ℕ) → length (tab m f) ≡ m
  unfolding tab
  length_tab zero = refl
  length_tab (suc m) = rw (length-append, length_tab m) (add-one m)

  pub tab_at : (m k : ℕ) (z : A) → k < m → get_or (tab m f) k z ≡ f k
  unfolding tab
  tab_at zero k z h = absurd (omega arith)
  tab_at (suc m) k z h =
      by_eq k m
      (λ e. rw (e, last) refl)
      (λ ne. get_or-append (tab m f) (f m ∷ []) z k (rw (length_tab m) (omega arith)) ∙ tab_at m k z (omega arith))
    where
      last : get_or (tab m f ++ (f m ∷ [])) m z ≡ f m
      last = ap (λ x. get_or (tab m f ++ (f m ∷ [])) x z) (sym (length_tab m)) ∙ get_or-append_seam (tab m f) (f m) [] z

  -- one cell more is written
  pub tab_more : (p : ℕ) (o : List A) (z : A) → p < length o → set (tab p f ++ drop p o) p (f p) ≡ tab (p + 1) f ++ drop (p + 1) o
  unfolding tab
  tab_more p o z h = rw (add-one, drop-cons o p z h, set_at (tab p f) (get_or o p z) (drop (suc p) o) (f p) p (length_tab p), append_assoc)

pub tab_ext : {A : Type 0} (m : ℕ) (f g : ℕ → A) → ((k : ℕ) → k < m → f k ≡ g k) → tab m f ≡ tab m g
unfolding tab
tab_ext zero f g h = refl
tab_ext (suc m) f g h = rw (tab_ext m f g (λ k lt. h k (omega arith)), h m (omega arith)) refl

-- ---- a square table made by a rule
module _ (n : ℕ) (f : ℕ → ℕ → ℕ) where
  pub length_square : length (square n f) ≡ n * n
  unfolding square
  length_square = length_tab _ (n * n)

  pub square_cell : (i j : ℕ) → i < n → j < n → cell n (square n f) i j ≡ f i j
  unfolding square cell
  square_cell i j hi hj =
      tab_at (λ p. f (p / n) (p % n)) (n * n) (i * n + j) 0 (cell_lt n i j hi hj)
      ∙ rw (digits_div i hj, digits_mod i hj) refl

-- a number below n * n is the place of one row and one column
pub place_split : (n p : ℕ) → p < n * n → (p / n < n) × ((p % n < n) × (p / n * n + p % n ≡ p))
place_split zero p h = absurd (omega arith)
place_split (suc n) p h = ((div-lt_iff_lt-mul {k = suc n} {x = p} {y = suc n} (omega arith)).1 h, (mod-lt p (omega arith), div-add-mod' p (suc n)))

-- the cell at a place is that of its pair
pub at_place : (n : ℕ) (t : List ℕ) (p : ℕ) → p < n * n → get_or t p 0 ≡ cell n t (p / n) (p % n)
unfolding cell
at_place n t p lt = ap (λ x. get_or t x 0) (sym (place_split n p lt).1.1)

-- two tables of n * n cells that agree at each pair are one
pub square_ext : (n : ℕ) (s t : List ℕ) → length s ≡ n * n → length t ≡ n * n → ((i j : ℕ) → i < n → j < n → cell n s i j ≡ cell n t i j) → s ≡ t
unfolding cell
square_ext n s t ls lt same =
    ext_get_or 0 s t (ls ∙ sym lt) (λ p h.
    let q = place_split n p (omega arith) in
    ap (λ x. get_or s x 0) (sym q.1.1) ∙ same (p / n) (p % n) q.0 q.1.0 ∙ ap (λ x. get_or t x 0) q.1.1)

-- a table of n * n cells is the square of its cells
pub square_same : (n : ℕ) (d : List ℕ) → length d ≡ n * n → square n (cell n d) ≡ d
square_same n d e = square_ext n (square n (cell n d)) d (length_square n (cell n d)) e (square_cell n (cell n d))

-- the first n * n cells of a table are the square of its cells
pub tab_square : (n : ℕ) (d : List ℕ) → tab (n * n) (λ p. get_or d p 0) ≡ square n (cell n d)
unfolding square cell
tab_square n d = tab_ext (n * n) _ _ (λ p h. ap (λ x. get_or d x 0) (sym (div-add-mod' p n)))

-- ---- stores
-- what a table holds after a store
pub at_set : (l : List ℕ) (j v k : ℕ) → j < length l → ((k ≡ j) × (get_or (set l j v) k 0 ≡ v)) ⊎ ((k ≡ j → ⊥) × (get_or (set l j v) k 0 ≡ get_or l k 0))
at_set l j v k h = by_eq k j (λ e. inl (e, ap (λ x. get_or (set l j v) x 0) e ∙ get_or-set_same l j v 0 h)) (λ e. inr (e, get_or-set_other l j k v 0 e))

module _ (n : ℕ) (t : List ℕ) (a j x : ℕ) (hj : j < n) where
  pub set_here : a * n + j < length t → cell n (set t (a * n + j) x) a j ≡ x
  unfolding cell
  set_here fits = get_or-set_same t (a * n + j) x 0 fits

  pub set_row : (k v : ℕ) → v < n → (k ≡ a → ⊥) → cell n (set t (a * n + j) x) k v ≡ cell n t k v
  unfolding cell
  set_row k v hv ne = get_or-set_other t (a * n + j) (k * n + v) x 0 (λ e. ne (place_row n k a v j hv hj e))

  pub set_col : (k v : ℕ) → v < n → (v ≡ j → ⊥) → cell n (set t (a * n + j) x) k v ≡ cell n t k v
  unfolding cell
  set_col k v hv ne = get_or-set_other t (a * n + j) (k * n + v) x 0 (λ e. ne (place_col n k a v j hv hj e))

  -- every other pair's cell stays
  pub set_else : (k v : ℕ) → v < n → (k ≡ a → v ≡ j → ⊥) → cell n (set t (a * n + j) x) k v ≡ cell n t k v
  set_else k v hv ne = by_eq k a (λ e. set_col k v hv (ne e)) (set_row k v hv)

-- ---- a lent table
pub written_at : (m : ℕ) (new old : List ℕ) → length new ≡ m → (p : ℕ) → p < m → get_or (written m new old) p 0 ≡ get_or new p 0
unfolding written
written_at m new old fits p h = get_or-append new (drop m old) 0 p (omega arith)

module _ {A : Type 0} (m : ℕ) (new old : List A) (fits : length new ≡ m) where
  pub written_rest : drop m (written m new old) ≡ drop m old
  unfolding written
  written_rest = drop_at new (drop m old) m fits

  pub written_first : take m (written m new old) ≡ new
  unfolding written
  written_first = take_at new (drop m old) m fits

  pub written_room : m ≤ length (written m new old)
  unfolding written
  written_room = omega (arith, length-append new (drop m old))

  -- a table that had room for the new cells is as long as before
  pub written_length : m ≤ length old → length (written m new old) ≡ length old
  unfolding written
  written_length room = omega (arith, length-append new (drop m old), length-drop m old)

-- a table whose first n * n cells are known has their pairs
pub take_cell : (n : ℕ) (t new : List ℕ) → take (n * n) t ≡ new → (i j : ℕ) → i < n → j < n → cell n t i j ≡ cell n new i j
unfolding cell
take_cell n t new e i j hi hj = sym (get_or-take (n * n) t (i * n + j) 0 (cell_lt n i j hi hj)) ∙ ap (λ x. get_or x (i * n + j) 0) e

-- tables whose first n * n cells are the same have the same pairs
pub first_cells : (n : ℕ) (x y : List ℕ) → take (n * n) x ≡ take (n * n) y → (i j : ℕ) → i < n → j < n → cell n x i j ≡ cell n y i j
first_cells n x y e i j hi hj = take_cell n x (take (n * n) y) e i j hi hj ∙ sym (take_cell n y (take (n * n) y) refl i j hi hj)

-- the first cells of a table that holds one number throughout
pub take_replicate : {A : Type 0} (m k : ℕ) (x : A) → m ≤ k → take m (replicate k x) ≡ replicate m x
take_replicate zero k x h = refl
take_replicate (suc m) zero x h = absurd (omega arith)
take_replicate (suc m) (suc k) x h = ap (λ l. x ∷ l) (take_replicate m k x (omega arith))
