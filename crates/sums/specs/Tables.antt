-- Tables in lists, row by row.
use Rattle.std.specs.Prelude.{ℕ, zero, suc, ◌+◌, ◌*◌, ◌/◌, ◌%◌, List, [], ◌∷◌, ◌++◌, get_or, drop}

-- the cell at row i and column j of a table with n columns
unfoldable pub cell : ℕ → List ℕ → ℕ → ℕ → ℕ
cell n t i j = get_or t (i * n + j) 0

-- f 0, .., f (m - 1)
unfoldable pub tab {ℓ} : {A : Type ℓ} → ℕ → (ℕ → A) → List A
tab zero f = []
tab (suc m) f = tab m f ++ (f m ∷ [])

-- the square table of n rows and n columns whose cell at row i and column j is f i j
unfoldable pub square : ℕ → (ℕ → ℕ → ℕ) → List ℕ
square n f = tab (n * n) (λ p. f (p / n) (p % n))

-- a lent table whose first m cells now hold new, and whose further cells are as before
unfoldable pub written {ℓ} : {A : Type ℓ} → ℕ → List A → List A → List A
written m new old = new ++ drop m old
