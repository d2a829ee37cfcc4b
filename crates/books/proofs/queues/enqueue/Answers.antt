-- `enqueue` meets its contract: the cells passed hold what waits after the arrival, the others are as before. Assumes nothing.
use Prim.Native.Nat.{◌*◌}
use native.Mathlib.Omega.{arith}
use Rattle.sums.proofs.Fills.{filled_none, filled_next, filled_more, filled_all}
use Rattle.books.specs.Queues.{queued}
use Rattle.books.proofs.queues.enqueue.Goals as goal

pub loop-p-init : goal.loop-p-init
loop-p-init c = filled_none _ _

pub overflow_add-waiting : goal.overflow_add-waiting
overflow_add-waiting c = omega (arith, filled_next c.loop-p.invariant (omega arith), c.requires.queues.most c.loop-p.p (omega arith), c.requires.within.most c.loop-p.p (omega arith))

pub loop-p-preserved : goal.loop-p-preserved
loop-p-preserved c = filled_more _ c.loop-p.invariant (omega arith) (omega (arith, filled_next c.loop-p.invariant (omega arith)))

pub returns : goal.returns
unfolding queued
returns c = filled_all (c.args.n * c.args.n) c.loop-p.invariant (omega arith)
