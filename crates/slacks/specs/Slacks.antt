-- The entry `slacks`: which refusal it gives, in which order, and what its table then holds.
use Rattle.std.specs.Prelude.{ℕ, ◌*◌, ◌≡◌, List, length, ℤ}
use Rattle.sums.specs.Tables.{tab, written}
use Rattle.star.specs.Refusals.{Verdict, Notice, accepted, check, Promise, nodes_out, slots_out, short, some_cell, first_above}
use Rattle.star.specs.Lines.{slack, whole_frame}
use Rattle.slacks.specs.Checks.{slacks_verdict}

-- Slacks 1, 2, 4, 5, 6, in document 01's numbers and each with its place: N, L, the demand, and how many cells the lent table has.
unfoldable pub slacks_notice : (n l : ℕ) (d : List ℕ) (cells : ℕ) → Notice
slacks_notice n l d cells =
    check (nodes_out n) 1 0
    (check (slots_out l) 2 0
    (check (short (length d) (n * n)) 4 0
    (check (short cells (2 * n)) 5 0
    (check (some_cell (n * n) (first_above n d)) 6 (first_above n d)
    accepted))))

-- What `slacks` promises for every input: slacks go to a signed table of 2N cells in line order; its further cells are not changed. A refusal
-- writes nothing.
abbrev pub SlacksResult : (n l : ℕ) (d : List ℕ) (table table' : List ℤ) (v : Verdict) → Type 0
SlacksResult n l d table table' v =
    Promise v (slacks_verdict n l d (length table)) (slacks_notice n l d (length table)) table table'
    (table' ≡ written (2 * n) (tab (2 * n) (slack n (whole_frame n l) d)) table)
