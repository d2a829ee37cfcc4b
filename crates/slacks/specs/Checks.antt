-- The checks of `slacks` by the names of their refusals; `slacks_notice` says them in numbers.
use Rattle.std.specs.Prelude.{ℕ, ◌*◌, List, length}
use Rattle.star.specs.declared.refusals.Refusal.TheVariants.{TableShort}
use Rattle.star.specs.Refusals.{Verdict, Accepted, short}
use Rattle.star.specs.Checks.{refuse, then, sizes_verdict, demand_short_verdict, demand_above_verdict}

-- Slacks 1, 2 | 4 | 5 | 6: N, L, the demand, and how many cells the lent table has.
unfoldable pub slacks_verdict : (n l : ℕ) (d : List ℕ) (cells : ℕ) → Verdict
slacks_verdict n l d cells =
    then (sizes_verdict n l)
    (then (demand_short_verdict n (length d))
    (then (refuse (short cells (2 * n)) TableShort Accepted)
    (demand_above_verdict n d)))
