use Prim.Native.Nat.{◌-◌}
use mathlib.Core.List.{◌++◌}
use mathlib.Core.Path.{◌≡◌}
use lib.ListN.{get_or, drop}
use Rattle.sums.specs.Tables.{tab}
use Rattle.least.proofs.kept.subtract.Given as goal

abbrev pub invariant-loop-p : goal.invariant-loop-p
invariant-loop-p l = l.table ≡ tab l.p (λ q. get_or l.demand q 0 - get_or l.withdrawn q 0) ++ drop l.p l.initial.table
