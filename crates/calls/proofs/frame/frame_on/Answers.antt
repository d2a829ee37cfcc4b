-- `frame_on` meets its contract: nothing changes after a refusal; else the queues are planned, and what is kept leaves them. Assumes nothing.
use mathlib.Core.Path.{refl}
use Rattle.star.proofs.RefusalLaws.{raised}
use Rattle.planner.specs.Lent.{lent}
use Rattle.calls.specs.Held.{held}
use Rattle.calls.proofs.Outcomes.{frame_refused, frame_fits, frame_done, frame_room, frame_takes, frame_adds}
use Rattle.calls.proofs.frame.frame_on.Goals as goal

pub returns-in_err-rule : goal.returns-in_err-rule
returns-in_err-rule c = let a = c.args in rw (raised _ c.from_residual.ensures.1) (frame_refused (lent a.kept.now a.withdrawn.now a.schedule.now) (held a.old a.waiting.now a.posted.now a.sent.now a.dropped.now) c.in_err-rule.ensures.verdict refl)

pub write_whole-report-requires : goal.write_whole-report-requires
write_whole-report-requires c = let a = c.args in rw c.in_ok-rule.ensures.rule (frame_room (frame_fits (lent a.kept.now a.withdrawn.now a.schedule.now) (held a.old a.waiting.now a.posted.now a.sent.now a.dropped.now) c.in_ok-rule.ensures.verdict refl))

pub dequeue-requires : goal.dequeue-requires
dequeue-requires c = let a = c.args in frame_takes (frame_fits (lent a.kept.now a.withdrawn.now a.schedule.now) (held a.old a.waiting.now a.posted.now a.sent.now a.dropped.now) c.in_ok-rule.ensures.verdict refl) (rw c.in_ok-rule.ensures.rule at c.write_whole-report.ensures)

pub add-requires : goal.add-requires
add-requires c = let a = c.args in frame_adds (frame_fits (lent a.kept.now a.withdrawn.now a.schedule.now) (held a.old a.waiting.now a.posted.now a.sent.now a.dropped.now) c.in_ok-rule.ensures.verdict refl) (rw c.in_ok-rule.ensures.rule at c.write_whole-report.ensures) (λ p. (c.type_inv.posted p).fits)

pub returns : goal.returns
returns c = let a = c.args in frame_done (lent a.kept.now a.withdrawn.now a.schedule.now) (held a.old a.waiting.now a.posted.now a.sent.now a.dropped.now) c.in_ok-rule.ensures.verdict refl (rw c.in_ok-rule.ensures.rule at c.write_whole-report.ensures) c.dequeue.ensures c.add.ensures
