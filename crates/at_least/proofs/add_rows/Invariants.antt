use Rattle.at_least.specs.Halves.{RowsAdded}
use Rattle.at_least.proofs.add_rows.Given as goal

abbrev pub invariant-loop-i : goal.invariant-loop-i
invariant-loop-i l = RowsAdded l.n l.table l.threshold l.half l.from l.i
