use Rattle.least.proofs.Cutting.{Cutting}
use Rattle.least.proofs.kept.share_lines.Given as goal

abbrev pub invariant-loop-line : goal.invariant-loop-line
invariant-loop-line l = Cutting l.n l.cap l.initial.table l.line l.table
