-- `play_frame` meets its contract: it lends tables for 64 nodes and 1,024 slots. Assumes nothing.
use Prim.Native.Nat.{ℕ}
use lib.ListN.{length-replicate}
use Rattle.play.proofs.PlayLaws.{frame_played}
use Rattle.play.proofs.play_frame.Goals as goal

pub returns : goal.returns
returns c = frame_played _ _ c.frame_on.result c.frame_on.ensures (length-replicate {A = ℕ} 4096 0) (length-replicate {A = ℕ} 4096 0) (length-replicate {A = ℕ} 65536 0)
