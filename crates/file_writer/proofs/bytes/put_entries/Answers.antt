-- `put_entries` puts an entry each turn; the posts passed are counted. Assumes nothing.
use Prim.Native.Nat.{◌+◌}
use native.Mathlib.Omega.{arith}
use mathlib.Core.Path.{sym}
use lib.ListN.{get_or}
use Rattle.pieces.proofs.PieceLaws.{puts_none, join_none}
use Rattle.file_writer.specs.Bytes.{entry_bytes}
use Rattle.file_writer.proofs.ByteLaws.{length_entries, length_four, posts_none, posts_next, posts_few}
use Rattle.file_writer.proofs.PutLaws.{put_entry}
use Rattle.file_writer.proofs.bytes.put_entries.Goals as goal

pub loop-kind-init : goal.loop-kind-init
loop-kind-init c = record { posts = sym (posts_none _); put = rw (join_none (entry_bytes c.args.n c.args.kinds.now)) (puts_none _) }

pub put_four-requires : goal.put_four-requires
put_four-requires c = omega (arith, c.requires.room, c.loop-kind.invariant.put, length_entries c.args.n c.args.kinds.now c.loop-kind.kind-index, c.loop-kind-test.true)

pub place_after-requires : goal.place_after-requires
place_after-requires c = (c.requires.few.0, c.requires.few.1, omega (arith, c.requires.few, c.loop-kind.invariant.posts, posts_few c.args.kinds.now c.loop-kind.kind-index))

pub put_four-requires-in-loop-kind : goal.put_four-requires-in-loop-kind
put_four-requires-in-loop-kind c = omega (arith, c.requires.room, c.loop-kind.invariant.put, length_entries c.args.n c.args.kinds.now c.loop-kind.kind-index, length_four (get_or c.args.kinds.now c.loop-kind.kind-index 0), c.put_four.ensures, c.loop-kind-test.true)

pub overflow_add-posts : goal.overflow_add-posts
overflow_add-posts c = omega (arith, c.requires.few, c.loop-kind.invariant.posts, c.from-posts.ensures, posts_next c.args.kinds.now c.loop-kind.kind-index, posts_few c.args.kinds.now (c.loop-kind.kind-index + 1), c.loop-kind-test.true)

pub loop-kind-preserved : goal.loop-kind-preserved
loop-kind-preserved c = record {
  posts = omega (arith, c.loop-kind.invariant.posts, c.from-posts.ensures, posts_next c.args.kinds.now c.loop-kind.kind-index);
  put = put_entry c.args.n c.args.kinds.now c.loop-kind.kind-index c.loop-kind.invariant.posts c.loop-kind.invariant.put c.put_four.ensures c.place_after.ensures c.put_four-in-loop-kind.ensures;
}
