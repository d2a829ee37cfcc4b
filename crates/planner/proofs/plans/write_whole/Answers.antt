-- `write_whole` meets its contract: the table of capacities that it fills is the whole frame. Assumes nothing.
use Rattle.star.proofs.LineLaws.{whole_frame_lem}
use Rattle.planner.proofs.plans.write_whole.Goals as goal

pub write_plan-requires : goal.write_plan-requires
write_plan-requires c = rw (whole_frame_lem c.args.nodes c.args.slots c.requires.sizes.nodes) c.requires

pub returns : goal.returns
returns c = rw (← (whole_frame_lem c.args.nodes c.args.slots c.requires.sizes.nodes)) c.write_plan.ensures
