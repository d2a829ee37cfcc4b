use Prim.Native.Nat.{◌+◌, ◌*◌}
use Rattle.walks.specs.Paths.{weight}
use Rattle.walks.proofs.Climbs.{Climb}
use Rattle.walks.proofs.climb.climb.Given as goal

abbrev pub invariant-loop-layers : goal.invariant-loop-layers
invariant-loop-layers l = Climb l.n l.partners.offers l.partners.takers l.initial.layers.rows l.initial.layers.columns l.layers.rows l.layers.columns l.steps.at l.steps.to l.e l.last l.k

abbrev pub decreases-loop-layers : goal.decreases-loop-layers
decreases-loop-layers l = 2 * weight l.n l.layers.rows l.layers.columns l.last + l.k
