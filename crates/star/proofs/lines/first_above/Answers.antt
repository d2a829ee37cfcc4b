-- `first_above` meets its contract: no cell of a row passed is above 65,535, and the first row that has one is searched. Assumes nothing.
use native.Mathlib.Omega.{arith}
use Rattle.star.proofs.RowSearchLaws.{row_clear, clear_more, found_in_row, found_in_none}
use Rattle.star.proofs.lines.first_above.Goals as goal
use Rattle.star.proofs.lines.first_above.Goals.{then-row_above-gt0+in_default, else-row_above-gt0}

pub returns-in-Some : goal.returns-in-Some
returns-in-Some c = found_in_row _ _ _ c.loop-i.invariant _ c.loop-i-test.true c.in-Some.ensures

pub loop-i-preserved : goal.loop-i-preserved
loop-i-preserved c =
    clear_more c.args.n c.args.demand.now c.loop-i.i c.loop-i.invariant (elim c.if-row_above-gt0.branch [
      | then-row_above-gt0+in_default w ↦ w.in_default.ensures
      | else-row_above-gt0 w ↦ row_clear _ _ _ _ (omega (arith, c.row_above.ensures, w.if-row_above-gt0.false))
    ])

pub returns : goal.returns
returns c = found_in_none _ _ _ c.loop-i.invariant (omega arith)
