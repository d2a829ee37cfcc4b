-- `play` meets its contract: the fresh start of an accepted file is accepted, and a history begins. Assumes nothing.
use native.Mathlib.Omega.{arith}
use Rattle.files.proofs.ReadLaws.{accepted_sound}
use Rattle.play.proofs.PlayLaws.{can_start}
use Rattle.play.proofs.play.Goals as goal

pub of-head-requires : goal.of-head-requires
of-head-requires c = omega (arith, (accepted_sound c.args.file.now c.requires.in_order).table.head)

pub loop-e-init : goal.loop-e-init
loop-e-init c = can_start c.args.file.now c.requires.in_order c.requires.large_tables (rw c.of-head.ensures at c.fresh_on.ensures) (rw c.of-head.ensures at c.started-run.ensures)
