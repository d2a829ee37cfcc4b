-- What is heard of a pair, for how long, and what of it is due, at and around the slot in which it stops to be idle: each by computation, so that no
-- definition can be changed together with the code unnoticed. Assumes nothing.
use mathlib.Core.Path.{◌≡◌, refl}
use mathlib.Core.List.{[], ◌∷◌, map}
use Rattle.sums.specs.Tables.{cell}
use Rattle.cells.specs.Cells.{padded_in, kept_in}
use Rattle.holds.specs.Holds.{lasting, heard_from, due}

-- Source 7, of which 3 slots are kept: idle while it still gets 5 and then 4, heard while it gets 3, 2 and 1.
three_kept_heard : map (λ v. heard_from v 3 7) (5 ∷ 4 ∷ 3 ∷ 2 ∷ 1 ∷ []) ≡ 255 ∷ 255 ∷ 7 ∷ 7 ∷ 7 ∷ []
unfolding heard_from
three_kept_heard = refl

three_kept_lasts : map (λ v. lasting v 3) (5 ∷ 4 ∷ 3 ∷ 2 ∷ 1 ∷ []) ≡ 2 ∷ 1 ∷ 3 ∷ 2 ∷ 1 ∷ []
unfolding lasting
three_kept_lasts = refl

-- A pair that keeps nothing is idle to the end, and one that gets no idle slot is heard from the start, source 0 too.
nothing_kept : map (λ v. heard_from v 0 0) (2 ∷ 1 ∷ []) ≡ 255 ∷ 255 ∷ []
unfolding heard_from
nothing_kept = refl

nothing_idle : map (λ v. heard_from v 2 0) (2 ∷ 1 ∷ []) ≡ 0 ∷ 0 ∷ []
unfolding heard_from
nothing_idle = refl

-- What is due: of 5, 4, 3 and 2 slots with 3 kept. 3 + 65,536 × 5 is 327,683.
due_after_idle : map (λ x. due 1 (x ∷ []) 0 0) (327683 ∷ 262147 ∷ 196611 ∷ 131075 ∷ []) ≡ 3 ∷ 3 ∷ 3 ∷ 2 ∷ []
unfolding cell padded_in kept_in
due_after_idle = refl
