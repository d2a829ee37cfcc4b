use Prim.Native.Nat.{◌*◌, ◌-◌}
use Rattle.fair.specs.Cuts.{cutting}
use Rattle.fair.proofs.Steps.{cuts}
use Rattle.fair.proofs.Rounds.{Stepped}
use Rattle.fair.proofs.rule.cut_all.Given as goal

abbrev pub invariant-loop-line : goal.invariant-loop-line
invariant-loop-line l = Stepped l.n l.cap l.initial.kept l.kept l.done l.sums.unmodified l.sums.modified

abbrev pub decreases-loop-line : goal.decreases-loop-line
decreases-loop-line l = 2 * l.n - cuts l.n (cutting l.kept l.done)
