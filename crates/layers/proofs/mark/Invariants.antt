use Rattle.layers.proofs.LayerLaws.{Marking}
use Rattle.layers.proofs.mark.Given as goal

abbrev pub invariant-loop-k : goal.invariant-loop-k
invariant-loop-k l = Marking l.n l.rows l.columns l.marks l.k
