-- `fresh_on` meets its contract: a refusal changes nothing, an acceptance has room for the work. Assumes nothing.
use mathlib.Core.Path.{refl, ◌∙◌}
use Rattle.books.specs.Queues.{zeroed}
use Rattle.star.proofs.RefusalLaws.{raised}
use Rattle.calls.specs.Held.{held}
use Rattle.calls.proofs.Outcomes.{fresh_refused, fresh_room, fresh_done}
use Rattle.calls.proofs.fresh.fresh_on.Goals as goal

pub returns-in_err-fresh_verdict : goal.returns-in_err-fresh_verdict
returns-in_err-fresh_verdict c = let a = c.args in let is = raised _ c.from_residual.ensures.1 in
    fresh_refused a.nodes a.slots a.limit a.rule (held a.old a.waiting.now a.posted.now a.sent.now a.dropped.now) (is ∙ c.in_err-fresh_verdict.ensures) is

pub clear-requires : goal.clear-requires
clear-requires c = let a = c.args in (fresh_room a.nodes a.slots a.limit a.rule (held a.old a.waiting.now a.posted.now a.sent.now a.dropped.now) c.in_ok-fresh_verdict.ensures refl).queues

pub clear-requires-2 : goal.clear-requires-2
clear-requires-2 c = let a = c.args in (fresh_room a.nodes a.slots a.limit a.rule (held a.old a.waiting.now a.posted.now a.sent.now a.dropped.now) c.in_ok-fresh_verdict.ensures refl).postings

pub clear-requires-3 : goal.clear-requires-3
clear-requires-3 c = let a = c.args in (fresh_room a.nodes a.slots a.limit a.rule (held a.old a.waiting.now a.posted.now a.sent.now a.dropped.now) c.in_ok-fresh_verdict.ensures refl).sendings

pub clear-requires-4 : goal.clear-requires-4
clear-requires-4 c = let a = c.args in (fresh_room a.nodes a.slots a.limit a.rule (held a.old a.waiting.now a.posted.now a.sent.now a.dropped.now) c.in_ok-fresh_verdict.ensures refl).drops

pub returns : goal.returns
unfolding zeroed
returns c = let a = c.args in fresh_done a.nodes a.slots a.limit a.rule (held a.old a.waiting.now a.posted.now a.sent.now a.dropped.now) c.in_ok-fresh_verdict.ensures refl c.clear.ensures c.clear-2.ensures c.clear-3.ensures c.clear-4.ensures
