-- `plan` meets its contract: nothing is written after a refusal, and all checks passed give the work its room. Assumes nothing.
use mathlib.Core.Path.{refl, sym, ap, ◌∙◌}
use Rattle.star.specs.Refusals.{verdict_of}
use Rattle.star.proofs.RefusalLaws.{raised, promise_refused, promise_done}
use Rattle.planner.specs.Lent.{lent}
use Rattle.planner.proofs.PlanLaws.{plan_notice_lem, plan_room}
use Rattle.planner.proofs.plans.plan.Goals as goal

pub returns-in_err-known : goal.returns-in_err-known
returns-in_err-known c = let is = ap verdict_of (raised _ c.from_residual.ensures.1) in
    promise_refused (is ∙ ap verdict_of (sym c.in_err-known.was) ∙ c.plan_verdict.ensures.verdict) (plan_notice_lem _ _ _ _ _ _ _) _ is

pub write_whole-requires : goal.write_whole-requires
write_whole-requires c = let a = c.args in
    rw c.in_ok-known.ensures.rule (plan_room a.nodes a.slots a.rule a.demand.now (lent a.kept.now a.withdrawn.now a.schedule.now) (sym c.in_ok-known.ensures.verdict))

pub returns : goal.returns
returns c = promise_done c.in_ok-known.ensures.verdict (plan_notice_lem _ _ _ _ _ _ _) _ _ refl (rw c.in_ok-known.ensures.rule at c.write_whole.ensures)
