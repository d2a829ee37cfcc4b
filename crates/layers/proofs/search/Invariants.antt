use Rattle.nodes.specs.Sets.{size}
use Rattle.layers.proofs.LayerLaws.{Searching}
use Rattle.layers.proofs.search.Given as goal

abbrev pub invariant-loop-layers : goal.invariant-loop-layers
invariant-loop-layers l = Searching l.n l.offers l.takers l.layers.rows l.layers.columns l.roots l.goals l.fresh_rows l.fresh_columns l.here l.k

abbrev pub decreases-loop-layers : goal.decreases-loop-layers
decreases-loop-layers l = size l.n l.fresh_rows
