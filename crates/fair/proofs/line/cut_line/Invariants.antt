use Rattle.fair.proofs.Partway.{Partway}
use Rattle.fair.specs.Cuts.{cutting}
use Rattle.fair.proofs.line.cut_line.Given as goal

abbrev pub invariant-loop-t : goal.invariant-loop-t
invariant-loop-t l = Partway l.n (cutting l.initial.kept l.done) l.initial.sums.unmodified l.initial.sums.modified l.line l.p l.q l.kept l.sums.unmodified l.sums.modified l.t l.sum
