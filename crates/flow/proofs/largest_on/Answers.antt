-- `flow::largest_on` meets its contract: from zeros and ceilings to the end. Assumes nothing.
use Prim.Native.Nat.{◌*◌}
use Rattle.sums.proofs.Fills.{cleared_at}
use Rattle.flow.proofs.Ends.{empty_start, finished}
use Rattle.flow.proofs.largest_on.Goals as goal

pub largest_within-requires : goal.largest_within-requires
largest_within-requires c = empty_start c.args.n c.clear.new.table (cleared_at (c.args.n * c.args.n) c.clear.new.table c.args.a.now c.clear.ensures) c.args.bound.now c.args.a.now c.args.headroom.now c.args.marks.now c.requires c.clear.auto.table

pub returns : goal.returns
returns c = finished c.largest_within.ensures (cleared_at (c.args.n * c.args.n) c.clear.new.table c.args.a.now c.clear.ensures)
