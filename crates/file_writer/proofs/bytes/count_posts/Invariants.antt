use mathlib.Core.Path.{◌≡◌}
use Rattle.file_writer.specs.Bytes.{posts_to}
use Rattle.file_writer.proofs.bytes.count_posts.Given as goal

abbrev pub invariant-loop-kind : goal.invariant-loop-kind
invariant-loop-kind l = l.posts ≡ posts_to l.kinds l.kind-index
