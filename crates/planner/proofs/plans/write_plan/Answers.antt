-- `write_plan` meets its contract: what is kept, what carries it and what is reported make a plan. Assumes nothing.
use native.Mathlib.Omega.{arith}
use mathlib.Core.Path.{ap, ◌∙◌}
use Rattle.star.specs.Lines.{total}
use Rattle.star.proofs.LineLaws.{demands_below}
use Rattle.planner.proofs.PlanLaws.{fits_frame, total_below}
use Rattle.planner.proofs.plans.write_plan.Goals as goal

pub place-switched-requires : goal.place-switched-requires
place-switched-requires c = let room = c.requires in
    record {
      square = record { nodes = room.sizes.nodes; cells = omega (arith, c.keep_by_rule.auto.kept, room.tables.kept) };
      frame = record { nodes = room.sizes.nodes; slots = room.sizes.slots; cells = room.tables.schedule };
      admissible = fits_frame room _ c.keep_by_rule.ensures.admissible;
    }

pub total-carried-requires : goal.total-carried-requires
total-carried-requires c = rw c.place-switched.ensures.same (record { nodes = c.requires.sizes.nodes; cells = omega (arith, c.keep_by_rule.auto.kept, c.requires.tables.kept) }, demands_below _ _ _ c.requires.within c.keep_by_rule.ensures.below)

pub overflow_sub-result : goal.overflow_sub-result
overflow_sub-result c = omega (arith, c.total-all.ensures, c.total-carried.ensures ∙ ap (total c.args.n) c.place-switched.ensures.same, total_below _ _ _ c.keep_by_rule.ensures.below)
