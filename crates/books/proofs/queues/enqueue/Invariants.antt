use Prim.Native.Nat.{◌+◌, min}
use lib.ListN.{get_or}
use Rattle.sums.proofs.Fills.{Filled}
use Rattle.books.proofs.queues.enqueue.Given as goal

abbrev pub invariant-loop-p : goal.invariant-loop-p
invariant-loop-p l = Filled l.p (λ q. min (get_or l.initial.waiting q 0 + get_or l.arrivals q 0) l.limit) l.initial.waiting l.waiting
