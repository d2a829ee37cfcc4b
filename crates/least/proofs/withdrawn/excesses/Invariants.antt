use Rattle.sums.proofs.Fills.{Filled}
use Rattle.star.specs.Lines.{excess}
use Rattle.least.proofs.withdrawn.excesses.Given as goal

abbrev pub invariant-loop-line : goal.invariant-loop-line
invariant-loop-line l = Filled l.line (excess l.n l.cap l.demand) l.initial.table l.table
