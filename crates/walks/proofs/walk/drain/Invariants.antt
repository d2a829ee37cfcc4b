use Prim.Native.Nat.{◌+◌}
use Rattle.growth.specs.Growth.{row_headroom}
use Rattle.walks.specs.Paths.{weight}
use Rattle.walks.proofs.WalkLaws.{Draining}
use Rattle.walks.proofs.walk.drain.Given as goal

abbrev pub invariant-loop-n : goal.invariant-loop-n
invariant-loop-n l = Draining l.n l.bound l.initial.a l.initial.headroom l.a l.headroom l.partners.offers l.partners.takers l.layers.rows l.layers.columns l.last

abbrev pub decreases-loop-n : goal.decreases-loop-n
decreases-loop-n l = row_headroom l.n l.headroom + weight l.n l.layers.rows l.layers.columns l.last
