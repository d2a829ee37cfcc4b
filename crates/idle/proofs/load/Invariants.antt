use Rattle.idle.proofs.Pads.{Loading}
use Rattle.idle.proofs.load.Given as goal

abbrev pub invariant-loop-cell : goal.invariant-loop-cell
invariant-loop-cell l = Loading l.initial.cell-items l.cell-items l.cell-index
