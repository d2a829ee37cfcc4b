-- `drop_excess` meets its contract: the cells passed have gained what exceeds the limit, the others are as before. Assumes nothing.
use Prim.Native.Nat.{◌*◌}
use native.Mathlib.Omega.{arith}
use Rattle.sums.proofs.Fills.{filled_none, filled_next, filled_more, filled_all}
use Rattle.books.specs.Queues.{overflowed}
use Rattle.books.proofs.queues.drop_excess.Goals as goal

pub loop-p-init : goal.loop-p-init
loop-p-init c = filled_none _ _

pub overflow_add-dropped : goal.overflow_add-dropped
overflow_add-dropped c = omega (arith, filled_next c.loop-p.invariant (omega arith), c.requires.few c.loop-p.p (omega arith), c.requires.arrives.queues.most c.loop-p.p (omega arith), c.requires.arrives.within.most c.loop-p.p (omega arith))

pub loop-p-preserved : goal.loop-p-preserved
loop-p-preserved c = filled_more _ c.loop-p.invariant (omega arith) (omega (arith, filled_next c.loop-p.invariant (omega arith)))

pub returns : goal.returns
unfolding overflowed
returns c = filled_all (c.args.n * c.args.n) c.loop-p.invariant (omega arith)
