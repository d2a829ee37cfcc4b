use Prim.Native.Nat.{◌-◌, ◌+◌}
use lib.ListN.{get_or}
use Rattle.sums.proofs.Fills.{Filled}
use Rattle.books.proofs.queues.drop_excess.Given as goal

abbrev pub invariant-loop-p : goal.invariant-loop-p
invariant-loop-p l = Filled l.p (λ q. get_or l.initial.dropped q 0 + (get_or l.waiting q 0 + get_or l.arrivals q 0 - l.limit)) l.initial.dropped l.dropped
