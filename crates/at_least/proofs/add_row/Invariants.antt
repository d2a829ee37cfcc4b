use Rattle.std.proofs.Common.{ℕ, ◌≡◌, ◌≤◌, get_or}
use Rattle.at_least.specs.Halves.{RowAdded}
use Rattle.at_least.proofs.add_row.Given as goal

-- the row has joined the sets of the columns below j, and the other sets are as they were
abbrev pub invariant-loop-j : goal.invariant-loop-j
invariant-loop-j l =
    RowAdded l.n l.table l.threshold l.initial.half l.half l.i l.bit l.j × ((u : ℕ) → l.j ≤ u → get_or l.half u 0 ≡ get_or l.initial.half u 0)
