use Prim.Native.Nat.{◌+◌}
use lib.ListN.{set}
use Rattle.nodes.specs.Sets.{size}
use Rattle.growth.specs.Sides.{Grew}
use Rattle.growth.proofs.fill.fill_some.Given as goal

abbrev pub invariant-loop-want : goal.invariant-loop-want
invariant-loop-want l = Grew l.n l.bound l.initial.a l.initial.headroom l.a (set l.headroom (l.n + l.j) l.want) l.offers l.takers

abbrev pub decreases-loop-want : goal.decreases-loop-want
decreases-loop-want l = size l.n l.todo
