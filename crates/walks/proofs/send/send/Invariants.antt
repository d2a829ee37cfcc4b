use lib.ListN.{get_or}
use Rattle.walks.proofs.Sends.{Sending}
use Rattle.walks.proofs.send.send.Given as goal

abbrev pub invariant-loop-k : goal.invariant-loop-k
invariant-loop-k l = Sending l.n l.bound l.initial.a l.a l.offers l.takers l.steps.at l.steps.to (get_or l.steps.to l.last 0) l.last l.x l.k
