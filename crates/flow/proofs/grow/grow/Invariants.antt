use Rattle.growth.specs.Growth.{row_headroom}
use Rattle.growth.specs.Sides.{Grew}
use Rattle.flow.proofs.grow.grow.Given as goal

abbrev pub invariant-loop-last : goal.invariant-loop-last
invariant-loop-last l = Grew l.n l.bound l.initial.a l.initial.headroom l.a l.headroom l.partners.offers l.partners.takers

abbrev pub decreases-loop-last : goal.decreases-loop-last
decreases-loop-last l = row_headroom l.n l.headroom
