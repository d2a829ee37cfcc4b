-- `frame` meets its contract: the record is copied out, `frame_on` says what happens, and an accepted frame had a count left. Assumes nothing.
use mathlib.Core.Path.{refl}
use Rattle.std.specs.Prelude.{Ok}
use Rattle.calls.proofs.Outcomes.{frame_counted}
use Rattle.run.proofs.frame.frame.Goals as goal

pub frames_after-run-requires : goal.frames_after-run-requires
frames_after-run-requires c = frame_counted (Ok c.in_ok-report.report) c.in_ok-report.ensures refl
