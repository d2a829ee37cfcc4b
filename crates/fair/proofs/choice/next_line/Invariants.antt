use Rattle.std.specs.Prelude.{◌*◌, ◌≤◌}
use Rattle.fair.specs.Cuts.{NextLine}
use Rattle.fair.proofs.choice.next_line.Given as goal

abbrev pub invariant-loop-line : goal.invariant-loop-line
invariant-loop-line l = (l.found ≤ 2 * l.n) × NextLine l.n l.cap l.sums.unmodified l.sums.modified l.line l.found
