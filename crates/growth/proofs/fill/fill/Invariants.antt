use Rattle.growth.specs.Sides.{Grew}
use Rattle.growth.proofs.fill.fill.Given as goal

abbrev pub invariant-loop-j : goal.invariant-loop-j
invariant-loop-j l = Grew l.n l.bound l.initial.a l.initial.headroom l.a l.headroom l.offers l.takers
