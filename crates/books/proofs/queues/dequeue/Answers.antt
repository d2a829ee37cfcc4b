-- `dequeue` meets its contract: the cells passed have lost what is kept, which is no more than waits; the others are as before. Assumes nothing.
use Prim.Native.Nat.{◌*◌}
use native.Mathlib.Omega.{arith}
use Rattle.sums.proofs.Fills.{filled_none, filled_next, filled_more, filled_all}
use Rattle.books.specs.Queues.{served}
use Rattle.books.proofs.queues.dequeue.Goals as goal

pub loop-p-init : goal.loop-p-init
loop-p-init c = filled_none _ _

pub overflow_sub-waiting : goal.overflow_sub-waiting
overflow_sub-waiting c = omega (arith, filled_next c.loop-p.invariant (omega arith), c.requires.below c.loop-p.p (omega arith))

pub loop-p-preserved : goal.loop-p-preserved
loop-p-preserved c = filled_more _ c.loop-p.invariant (omega arith) (omega (arith, filled_next c.loop-p.invariant (omega arith)))

pub returns : goal.returns
unfolding served
returns c = filled_all (c.args.n * c.args.n) c.loop-p.invariant (omega arith)
