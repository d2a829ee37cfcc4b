use mathlib.Core.Path.{◌≡◌}
use Prim.Native.Nat.{◌≤◌}
use lib.Dec.{ltb}
use lib.ListN.{get_or}
use Rattle.sums.specs.Sums.{sum_to, bit}
use Rattle.least.proofs.kept.Division.rank.Given as goal

abbrev pub invariant-loop-claim : goal.invariant-loop-claim
invariant-loop-claim l = (l.count ≡ sum_to l.claim-index (λ u. bit (ltb l.own (get_or l.self.claims u 0)))) × (l.count ≤ l.claim-index)
