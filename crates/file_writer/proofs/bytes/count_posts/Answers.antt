-- `count_posts` meets its contract: the posts among the entries passed are counted. Assumes nothing.
use Prim.Native.Nat.{◌+◌}
use native.Mathlib.Omega.{arith}
use mathlib.Core.Path.{sym}
use Rattle.file_writer.proofs.ByteLaws.{posts_none, posts_next, posts_few}
use Rattle.file_writer.proofs.bytes.count_posts.Goals as goal

pub loop-kind-init : goal.loop-kind-init
loop-kind-init c = sym (posts_none _)

pub overflow_add-posts : goal.overflow_add-posts
overflow_add-posts c = omega (arith, c.loop-kind.invariant, c.from-posts.ensures, posts_next c.args.kinds.now c.loop-kind.kind-index, posts_few c.args.kinds.now (c.loop-kind.kind-index + 1), c.loop-kind-test.true)

pub loop-kind-preserved : goal.loop-kind-preserved
loop-kind-preserved c = omega (arith, c.loop-kind.invariant, c.from-posts.ensures, posts_next c.args.kinds.now c.loop-kind.kind-index)
