use lib.ListN.{get_or}
use Rattle.sums.proofs.Fills.{Filled}
use Rattle.star.proofs.tables.copy.Given as goal

abbrev pub invariant-loop-p : goal.invariant-loop-p
invariant-loop-p l = Filled l.p (λ q. get_or l.from q 0) l.initial.to l.to
