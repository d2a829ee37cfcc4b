use Rattle.pairs.proofs.Flips.{Goes, same}
use Rattle.pairs.proofs.flip.flip.Given as goal

abbrev pub invariant-loop-i : goal.invariant-loop-i
invariant-loop-i l = Goes l.n l.initial.source l.initial.destination l.source l.destination l.next l.r l.i l.j

abbrev pub decreases-loop-i : goal.decreases-loop-i
decreases-loop-i l = same l.n l.initial.source l.source
