use Prim.Native.Nat.{◌+◌}
use Rattle.walks.proofs.Sends.{Narrowing}
use Rattle.walks.proofs.send.bottleneck.Given as goal

abbrev pub invariant-loop-k : goal.invariant-loop-k
invariant-loop-k l = Narrowing l.n l.bound l.a l.headroom l.steps.at l.steps.to l.e l.x l.k 0

abbrev pub invariant-loop-h : goal.invariant-loop-h
invariant-loop-h l = Narrowing l.n l.bound l.a l.headroom l.steps.at l.steps.to l.e l.x (l.last + 1) l.h
