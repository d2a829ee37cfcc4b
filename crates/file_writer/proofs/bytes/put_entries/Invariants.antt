use mathlib.Core.Path.{◌≡◌}
use Rattle.pieces.specs.Pieces.{Puts, join_to}
use Rattle.file_writer.specs.Bytes.{posts_to, entry_bytes}
use Rattle.file_writer.proofs.bytes.put_entries.Given as goal

abbrev pub invariant-loop-kind : goal.invariant-loop-kind
invariant-loop-kind l = record {
  posts : l.posts ≡ posts_to l.kinds l.kind-index;
  put : Puts l.initial.file l.file (join_to l.kind-index (entry_bytes l.n l.kinds));
}
