use Rattle.idle.proofs.Pads.{Lessening}
use Rattle.idle.proofs.lacks.Given as goal

abbrev pub invariant-loop-line : goal.invariant-loop-line
invariant-loop-line l = Lessening l.initial.line-items l.line-items l.r l.line-index
