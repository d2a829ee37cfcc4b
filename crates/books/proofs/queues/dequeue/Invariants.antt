use Prim.Native.Nat.{◌-◌}
use lib.ListN.{get_or}
use Rattle.sums.proofs.Fills.{Filled}
use Rattle.books.proofs.queues.dequeue.Given as goal

abbrev pub invariant-loop-p : goal.invariant-loop-p
invariant-loop-p l = Filled l.p (λ q. get_or l.initial.waiting q 0 - get_or l.kept q 0) l.initial.waiting l.waiting
