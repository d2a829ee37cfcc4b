-- Fair rule (000 and 001, overloaded lines). `n` is N, `cap` has the capacity of each of the 2N lines where document 01 says L.
use Rattle.std.specs.Prelude.{ℕ, zero, suc, ◌+◌, ◌-◌, ◌*◌, ◌/◌, Bool, cond, not, ◌||◌, List, get_or, set, replicate, ltb, leb, eqb}
use Rattle.sums.specs.Sums.{sum_to, gate}
use Rattle.sums.specs.Tables.{cell, square}
use Rattle.star.specs.Lines.{source_on, destination_on, on_line, line_sum}

-- the state of the cut: what each cell has, and for each of the 2N lines 1 where it has been cut, else 0
pub record Cutting : Type 0 where
  pub values : List ℕ
  pub done : List ℕ

-- Each unmodified cell of the line that is taken counts as modified from then on: so a cell is modified where its row or its column has been cut.
unfoldable pub modified : (n : ℕ) (s : Cutting) (i j : ℕ) → Bool
modified n s i j = ltb 0 (get_or s.done i 0) || ltb 0 (get_or s.done (n + j) 0)

-- b, the sum of a line's modified cells
unfoldable pub modified_sum : (n : ℕ) (s : Cutting) (ℓ : ℕ) → ℕ
modified_sum n s ℓ = sum_to n (λ t. gate (modified n s (source_on n ℓ t) (destination_on n ℓ t)) (on_line n s.values ℓ t))

-- a, the sum of its unmodified ones
unfoldable pub unmodified_sum : (n : ℕ) (s : Cutting) (ℓ : ℕ) → ℕ
unmodified_sum n s ℓ = sum_to n (λ t. gate (not (modified n s (source_on n ℓ t) (destination_on n ℓ t))) (on_line n s.values ℓ t))

-- L−b, the numerator of a line's fraction (L−b)/a; a is its denominator
unfoldable pub numerator : (n : ℕ) (cap : List ℕ) (s : Cutting) (ℓ : ℕ) → ℕ
numerator n cap s ℓ = get_or cap ℓ 0 - modified_sum n s ℓ

-- the line's sum exceeds L
unfoldable pub exceeds : (n : ℕ) (cap : List ℕ) (s : Cutting) (ℓ : ℕ) → Bool
exceeds n cap s ℓ = ltb (get_or cap ℓ 0) (line_sum n s.values ℓ)

-- line m has a smaller fraction than line p, compared exactly
unfoldable pub smaller : (n : ℕ) (cap : List ℕ) (s : Cutting) (m p : ℕ) → Bool
smaller n cap s m p = ltb (numerator n cap s m * unmodified_sum n s p) (numerator n cap s p * unmodified_sum n s m)

-- For each line whose sum exceeds L: take the one with the smallest fraction (L−b)/a; on a tie, the lowest line number.
-- Of the lines below m that exceed, the one taken, or 2N where there is none.
unfoldable pub taken : (n : ℕ) (cap : List ℕ) (s : Cutting) (m : ℕ) → ℕ
taken n cap s zero = 2 * n
taken n cap s (suc m) =
    cond (exceeds n cap s m)
    (cond (leb (2 * n) (taken n cap s m) || smaller n cap s m (taken n cap s m)) m (taken n cap s m))
    (taken n cap s m)

-- Each unmodified cell v of the line becomes v×(L−b)/a rounded down at once; every other cell stays.
unfoldable pub cut_cell : (n : ℕ) (cap : List ℕ) (s : Cutting) (ℓ i j : ℕ) → ℕ
cut_cell n cap s ℓ i j =
    cond (modified n s i j)
    (cell n s.values i j)
    (cond (eqb i ℓ || eqb (n + j) ℓ)
    (cell n s.values i j * numerator n cap s ℓ / unmodified_sum n s ℓ)
    (cell n s.values i j))

unfoldable pub cut_line : (n : ℕ) (cap : List ℕ) (s : Cutting) (ℓ : ℕ) → Cutting
cut_line n cap s ℓ = record { values = square n (cut_cell n cap s ℓ); done = set s.done ℓ 1 }

-- While some line's sum exceeds L, one line is cut; where none does nothing changes.
unfoldable pub step : (n : ℕ) (cap : List ℕ) (s : Cutting) → Cutting
step n cap s = cond (ltb (taken n cap s (2 * n)) (2 * n)) (cut_line n cap s (taken n cap s (2 * n))) s

unfoldable pub steps : (n : ℕ) (cap : List ℕ) (s : Cutting) (m : ℕ) → Cutting
steps n cap s zero = s
steps n cap s (suc m) = step n cap (steps n cap s m)

-- At the start no cell is modified.
unfoldable pub uncut : (n : ℕ) (d : List ℕ) → Cutting
uncut n d = record { values = square n (cell n d); done = replicate (2 * n) 0 }

-- What the fair rule keeps: no line is cut twice, so after 2N steps none exceeds.
unfoldable pub fair_kept : (n : ℕ) (cap d : List ℕ) → List ℕ
fair_kept n cap d = (steps n cap (uncut n d) (2 * n)).values
