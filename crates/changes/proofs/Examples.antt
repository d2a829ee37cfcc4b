-- What a setting adds to the reconfigurations, at the frame's start and after it: each by computation, so that no definition can be changed together
-- with the code unnoticed. Assumes nothing.
use mathlib.Core.Path.{◌≡◌, refl}
use mathlib.Core.List.{[], ◌∷◌}
use Rattle.sums.specs.Searches.{some_below}
use Rattle.sums.specs.Tables.{cell}
use Rattle.star.specs.Schedules.{differ}
use Rattle.changes.specs.Changes.{change_at}

-- Nothing is before the first slot.
at_the_start : change_at 2 (0 ∷ 1 ∷ []) 0 (1 ∷ 0 ∷ []) ≡ 0
unfolding change_at
at_the_start = refl

-- After the same setting, and after one that differs for the first destination alone, for the last alone, and only in that it is idle.
after_the_same : change_at 2 (0 ∷ 1 ∷ []) 1 (0 ∷ 1 ∷ []) ≡ 0
unfolding change_at differ some_below cell
after_the_same = refl

first_differs : change_at 2 (0 ∷ 1 ∷ []) 1 (255 ∷ 1 ∷ []) ≡ 1
unfolding change_at differ some_below cell
first_differs = refl

last_differs : change_at 2 (0 ∷ 1 ∷ []) 1 (0 ∷ 255 ∷ []) ≡ 1
unfolding change_at differ some_below cell
last_differs = refl

-- The slot before counts, not an earlier one; and what a setting has beyond its destinations does not.
slot_before : change_at 2 (0 ∷ 1 ∷ 1 ∷ 0 ∷ []) 2 (0 ∷ 1 ∷ []) ≡ 1
unfolding change_at differ some_below cell
slot_before = refl

beyond_the_nodes : change_at 2 (0 ∷ 1 ∷ []) 1 (0 ∷ 1 ∷ 1 ∷ []) ≡ 0
unfolding change_at differ some_below cell
beyond_the_nodes = refl
