-- What a line has and may still take, what all rows may still take, and a number on one line alone: each by computation. Assumes nothing.
use mathlib.Core.Path.{◌≡◌, refl}
use mathlib.Core.List.{[], ◌∷◌, map}
use Rattle.sums.specs.Sums.{sum_to}
use Rattle.sums.specs.Tables.{cell}
use Rattle.star.specs.Lines.{line_sum, on_line, source_on, destination_on}
use Rattle.growth.specs.Growth.{span, row_headroom, only}

-- Rows with 5 and 4, columns with 8 and 1, and on top of it their headroom.
spans : map (span 2 (5 ∷ 0 ∷ 3 ∷ 1 ∷ []) (1 ∷ 0 ∷ 20 ∷ 300 ∷ [])) (0 ∷ 1 ∷ 2 ∷ 3 ∷ []) ≡ 6 ∷ 4 ∷ 28 ∷ 301 ∷ []
unfolding span line_sum on_line source_on destination_on sum_to cell
spans = refl

-- The rows' headroom, and not the columns'.
row_headroom_lem : row_headroom 2 (1 ∷ 4 ∷ 20 ∷ 300 ∷ []) ≡ 5
unfolding row_headroom sum_to
row_headroom_lem = refl

-- 9 on line 2 of four.
on_one_line : map (λ ℓ. only ℓ 2 9) (0 ∷ 1 ∷ 2 ∷ 3 ∷ []) ≡ 0 ∷ 0 ∷ 9 ∷ 0 ∷ []
unfolding only
on_one_line = refl
