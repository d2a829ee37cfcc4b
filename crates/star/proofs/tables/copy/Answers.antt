-- `copy` meets its contract: the loop has written the other table's cells from the front. Assumes nothing.
use native.Mathlib.Omega.{arith}
use mathlib.Core.Path.{refl}
use Rattle.sums.proofs.Fills.{filled_none, filled_more, filled_all}
use Rattle.star.proofs.tables.copy.Goals as goal

pub loop-p-init : goal.loop-p-init
loop-p-init c = filled_none _ _

pub loop-p-preserved : goal.loop-p-preserved
loop-p-preserved c = filled_more _ c.loop-p.invariant (omega arith) refl

pub returns : goal.returns
returns c = filled_all c.args.cells c.loop-p.invariant (omega arith)
