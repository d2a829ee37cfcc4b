-- What the fair rule keeps, where the choice of the next line, a tie, or rounding at once decides: each by computation, so that no definition can be
-- changed together with the code unnoticed. Assumes nothing.
use mathlib.Core.Path.{◌≡◌, refl}
use mathlib.Core.List.{[], ◌∷◌}
use Rattle.sums.specs.Sums.{sum_to}
use Rattle.sums.specs.Tables.{cell, tab, square}
use Rattle.star.specs.Lines.{whole_frame, line_sum, on_line, source_on, destination_on}
use Rattle.fair.specs.Fair.{fair_kept, steps, step, uncut, taken, smaller, exceeds, numerator, modified_sum, unmodified_sum, modified, cut_line, cut_cell}

-- Take the line with the smallest fraction (L−b)/a: L 2, D rows 1 2 / 2 2. Choosing the next line by sum instead of by fraction would keep 0 1 / 1 1.
smallest_fraction : fair_kept 2 (whole_frame 2 2) (1 ∷ 2 ∷ 2 ∷ 2 ∷ []) ≡ 1 ∷ 1 ∷ 1 ∷ 1 ∷ []
unfolding fair_kept steps step uncut taken smaller exceeds numerator modified_sum unmodified_sum modified cut_line cut_cell whole_frame line_sum on_line source_on destination_on sum_to cell tab square
smallest_fraction = refl

-- On a tie, the lowest line number: L 3, D rows 2 2 / 2 0, row 0 and column 0 tie at 3/4. The column first would keep 1 2 / 1 0.
lowest_on_a_tie : fair_kept 2 (whole_frame 2 3) (2 ∷ 2 ∷ 2 ∷ 0 ∷ []) ≡ 1 ∷ 1 ∷ 2 ∷ 0 ∷ []
unfolding fair_kept steps step uncut taken smaller exceeds numerator modified_sum unmodified_sum modified cut_line cut_cell whole_frame line_sum on_line source_on destination_on sum_to cell tab square
lowest_on_a_tie = refl

-- Rounded down at once: L 1, D rows 0 1 / 1 1. Rounding at the end would keep nothing.
rounded_at_once : fair_kept 2 (whole_frame 2 1) (0 ∷ 1 ∷ 1 ∷ 1 ∷ []) ≡ 0 ∷ 1 ∷ 0 ∷ 0 ∷ []
unfolding fair_kept steps step uncut taken smaller exceeds numerator modified_sum unmodified_sum modified cut_line cut_cell whole_frame line_sum on_line source_on destination_on sum_to cell tab square
rounded_at_once = refl

-- A line whose sum is L is not cut: L 4, D rows 3 1 / 0 0.
full_line : fair_kept 2 (whole_frame 2 4) (3 ∷ 1 ∷ 0 ∷ 0 ∷ []) ≡ 3 ∷ 1 ∷ 0 ∷ 0 ∷ []
unfolding fair_kept steps step uncut taken smaller exceeds numerator modified_sum unmodified_sum modified cut_line cut_cell whole_frame line_sum on_line source_on destination_on sum_to cell tab square
full_line = refl
