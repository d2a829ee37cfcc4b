-- `post_on` meets its contract: a refusal changes nothing; an acceptance has room for the work, and no sum wraps. Assumes nothing.
use mathlib.Core.Path.{refl, ◌∙◌}
use Rattle.star.proofs.RefusalLaws.{raised}
use Rattle.calls.specs.Held.{held}
use Rattle.calls.proofs.Outcomes.{post_refused, post_fits, post_done, post_adds, post_drops, post_arrives}
use Rattle.calls.proofs.post.post_on.Goals as goal

pub returns-in_err-post_verdict : goal.returns-in_err-post_verdict
returns-in_err-post_verdict c = let a = c.args in let is = raised _ c.from_residual.ensures.1 in
    post_refused a.arrivals.now (held a.old a.waiting.now a.posted.now a.sent.now a.dropped.now) (is ∙ c.in_err-post_verdict.ensures) is

pub add-requires : goal.add-requires
add-requires c = let a = c.args in post_adds (post_fits a.arrivals.now (held a.old a.waiting.now a.posted.now a.sent.now a.dropped.now) c.in_ok-post_verdict.ensures refl)

pub drop_excess-requires : goal.drop_excess-requires
drop_excess-requires c = let a = c.args in post_drops (post_fits a.arrivals.now (held a.old a.waiting.now a.posted.now a.sent.now a.dropped.now) c.in_ok-post_verdict.ensures refl)

pub enqueue-requires : goal.enqueue-requires
enqueue-requires c = let a = c.args in post_arrives (post_fits a.arrivals.now (held a.old a.waiting.now a.posted.now a.sent.now a.dropped.now) c.in_ok-post_verdict.ensures refl)

pub returns : goal.returns
returns c = let a = c.args in post_done a.arrivals.now (held a.old a.waiting.now a.posted.now a.sent.now a.dropped.now) c.in_ok-post_verdict.ensures refl c.enqueue.ensures c.add.ensures c.drop_excess.ensures
