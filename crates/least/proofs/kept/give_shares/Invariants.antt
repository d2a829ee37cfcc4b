use Prim.Native.Nat.{◌+◌}
use lib.Dec.{ltb}
use lib.ListN.{get_or}
use Rattle.sums.specs.Sums.{bit}
use Rattle.least.specs.Promises.{outranking}
use Rattle.least.proofs.Rewritings.{Rewriting}
use Rattle.least.proofs.kept.give_shares.Given as goal

abbrev pub invariant-loop-t : goal.invariant-loop-t
invariant-loop-t l = Rewriting l.n l.line (λ u. get_or l.division.shares u 0 + bit (ltb (outranking l.n l.division.claims u) l.division.missing)) l.t l.initial.table l.table
