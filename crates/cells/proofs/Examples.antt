-- The two halves of a cell at their edges: each by computation, so that no definition can be changed together with the code unnoticed. Assumes nothing.
use mathlib.Core.Path.{◌≡◌, refl}
use mathlib.Core.List.{[], ◌∷◌}
use Rattle.cells.specs.Cells.{padded_in, kept_in}

-- nothing, the most below 65,536, one slot and nothing kept, 1,024 of both, and the most that 32 bits hold
what_pairs_get : padded_in (0 ∷ 65535 ∷ 65536 ∷ 67109888 ∷ 4294967295 ∷ []) ≡ 0 ∷ 0 ∷ 1 ∷ 1024 ∷ 65535 ∷ []
unfolding padded_in
what_pairs_get = refl

what_pairs_keep : kept_in (0 ∷ 65535 ∷ 65536 ∷ 67109888 ∷ 4294967295 ∷ []) ≡ 0 ∷ 65535 ∷ 0 ∷ 1024 ∷ 65535 ∷ []
unfolding kept_in
what_pairs_keep = refl
