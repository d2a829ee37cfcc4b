-- `give_shares` meets its contract. The loop's invariant: the cells of the line that were passed are rewritten, those off the line are as before.
-- Assumes nothing.
use native.Mathlib.Omega.{arith}
use Rattle.least.proofs.Rewritings.{rewriting_more}
use Rattle.least.proofs.kept.give_shares.Goals as goal

pub loop-t-preserved : goal.loop-t-preserved
loop-t-preserved c = rw c.put_on_line.ensures (rewriting_more _ _ _ _ _ _ _ c.requires.square.1 c.loop-t-test.true (omega (arith, c.requires.square.0)) c.kept.ensures c.loop-t.invariant)
