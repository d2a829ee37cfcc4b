-- What the least rule keeps, where the slots still missing are given to the cells with the largest remainder: each by computation, so that no definition
-- can be changed together with the code unnoticed. Where A is zero no pair is critical. Assumes nothing.
use mathlib.Core.Path.{◌≡◌, refl}
use mathlib.Core.List.{[], ◌∷◌}
use lib.ListN.{replicate}
use Rattle.sums.specs.Sums.{sum_to}
use Rattle.sums.specs.Tables.{cell, tab, square}
use Rattle.star.specs.Lines.{whole_frame, line_sum, on_line, source_on, destination_on}
use Rattle.least.specs.Least.{kept_from, kept_cell, left, longer, share, remainder, missing, before, rank, shared}

-- ---- the cells with the largest remainder of v×L by s
-- L 3, row 2 3: 6 and 9 by 5 leave 1 and 4, so the slot missing goes to the second cell.
second_in_a_row : kept_from 2 (whole_frame 2 3) (2 ∷ 3 ∷ 0 ∷ 0 ∷ []) (replicate 4 0) ≡ 1 ∷ 2 ∷ 0 ∷ 0 ∷ []
unfolding kept_from kept_cell left longer share remainder missing before rank shared whole_frame line_sum on_line source_on destination_on sum_to cell tab square
second_in_a_row = refl

-- the same in a column
second_in_a_column : kept_from 2 (whole_frame 2 3) (2 ∷ 0 ∷ 3 ∷ 0 ∷ []) (replicate 4 0) ≡ 1 ∷ 0 ∷ 2 ∷ 0 ∷ []
unfolding kept_from kept_cell left longer share remainder missing before rank shared whole_frame line_sum on_line source_on destination_on sum_to cell tab square
second_in_a_column = refl

-- L 3, row 3 1: 9 and 3 by 4 leave 1 and 3, the larger demand the smaller remainder.
smaller_demand : kept_from 2 (whole_frame 2 3) (3 ∷ 1 ∷ 0 ∷ 0 ∷ []) (replicate 4 0) ≡ 2 ∷ 1 ∷ 0 ∷ 0 ∷ []
unfolding kept_from kept_cell left longer share remainder missing before rank shared whole_frame line_sum on_line source_on destination_on sum_to cell tab square
smaller_demand = refl

-- L 4, row 3 2: 12 and 8 by 5 leave 2 and 3, which differ by one alone, and half of which is 1 for both.
larger_by_one : kept_from 2 (whole_frame 2 4) (3 ∷ 2 ∷ 0 ∷ 0 ∷ []) (replicate 4 0) ≡ 2 ∷ 2 ∷ 0 ∷ 0 ∷ []
unfolding kept_from kept_cell left longer share remainder missing before rank shared whole_frame line_sum on_line source_on destination_on sum_to cell tab square
larger_by_one = refl

-- L 5, row 4 3 1: 20, 15 and 5 by 8 leave 4, 7 and 5, and two slots are missing: one each to the second cell and the third.
one_each : kept_from 3 (whole_frame 3 5) (4 ∷ 3 ∷ 1 ∷ 0 ∷ 0 ∷ 0 ∷ 0 ∷ 0 ∷ 0 ∷ []) (replicate 9 0) ≡ 2 ∷ 2 ∷ 1 ∷ 0 ∷ 0 ∷ 0 ∷ 0 ∷ 0 ∷ 0 ∷ []
unfolding kept_from kept_cell left longer share remainder missing before rank shared whole_frame line_sum on_line source_on destination_on sum_to cell tab square
one_each = refl

-- ---- equal remainders, the lowest index in the line first
-- L 2, row 1 1 1: two slots are missing.
lowest_in_a_row : kept_from 3 (whole_frame 3 2) (1 ∷ 1 ∷ 1 ∷ 0 ∷ 0 ∷ 0 ∷ 0 ∷ 0 ∷ 0 ∷ []) (replicate 9 0) ≡ 1 ∷ 1 ∷ 0 ∷ 0 ∷ 0 ∷ 0 ∷ 0 ∷ 0 ∷ 0 ∷ []
unfolding kept_from kept_cell left longer share remainder missing before rank shared whole_frame line_sum on_line source_on destination_on sum_to cell tab square
lowest_in_a_row = refl

-- the same in column 1
lowest_in_a_column : kept_from 3 (whole_frame 3 2) (0 ∷ 1 ∷ 0 ∷ 0 ∷ 1 ∷ 0 ∷ 0 ∷ 1 ∷ 0 ∷ []) (replicate 9 0) ≡ 0 ∷ 1 ∷ 0 ∷ 0 ∷ 1 ∷ 0 ∷ 0 ∷ 0 ∷ 0 ∷ []
unfolding kept_from kept_cell left longer share remainder missing before rank shared whole_frame line_sum on_line source_on destination_on sum_to cell tab square
lowest_in_a_column = refl

-- ---- other cells keep E
-- L 4, D rows 3 2 / 1 1: row 0 alone exceeds L; the sum of column 0 is L.
others_keep : kept_from 2 (whole_frame 2 4) (3 ∷ 2 ∷ 1 ∷ 1 ∷ []) (replicate 4 0) ≡ 2 ∷ 2 ∷ 1 ∷ 1 ∷ []
unfolding kept_from kept_cell left longer share remainder missing before rank shared whole_frame line_sum on_line source_on destination_on sum_to cell tab square
others_keep = refl

-- The cut is of E and not of D: L 2, D rows 3 1 / 0 0, A is 1 in cell 0. Of E, 2 1, the remainders are 1 and 2; of D, 3 1, they would be equal.
cut_of_what_is_left : kept_from 2 (whole_frame 2 2) (3 ∷ 1 ∷ 0 ∷ 0 ∷ []) (1 ∷ 0 ∷ 0 ∷ 0 ∷ []) ≡ 1 ∷ 1 ∷ 0 ∷ 0 ∷ []
unfolding kept_from kept_cell left longer share remainder missing before rank shared whole_frame line_sum on_line source_on destination_on sum_to cell tab square
cut_of_what_is_left = refl
