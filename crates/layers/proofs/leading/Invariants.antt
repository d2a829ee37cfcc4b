use Rattle.layers.proofs.LayerLaws.{Lead}
use Rattle.layers.proofs.leading.Given as goal

abbrev pub invariant-loop-i : goal.invariant-loop-i
invariant-loop-i l = Lead l.n l.list l.to l.s l.i
