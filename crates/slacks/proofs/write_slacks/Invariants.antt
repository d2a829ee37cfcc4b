use mathlib.Core.List.{◌++◌}
use mathlib.Core.Path.{◌≡◌}
use lib.ListN.{drop}
use Rattle.sums.specs.Tables.{tab}
use Rattle.star.specs.Lines.{slack}
use Rattle.slacks.proofs.write_slacks.Given as goal

abbrev pub invariant-loop-line : goal.invariant-loop-line
invariant-loop-line l = l.table ≡ tab l.line (slack l.n l.cap l.demand) ++ drop l.line l.initial.table
