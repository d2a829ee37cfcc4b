-- `line_sums` meets its contract: the rows passed are in the sums. Assumes nothing.
use native.Mathlib.Omega.{arith}
use mathlib.Core.Path.{refl}
use Rattle.star.proofs.SumLaws.{summed_none, summed_all}
use Rattle.star.proofs.lines.line_sums.Goals as goal

pub loop-i-init : goal.loop-i-init
loop-i-init c = (refl, summed_none _ c.clear_columns.ensures)

pub returns : goal.returns
returns c = summed_all c.loop-i.invariant.1 (omega arith)
