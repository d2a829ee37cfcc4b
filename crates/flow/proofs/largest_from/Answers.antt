-- `flow::largest_from` meets its contract: the sets are right for a matrix of zeros. Assumes nothing.
use native.Mathlib.Omega.{arith}
use Rattle.flow.proofs.Grows.{empty_sides}
use Rattle.flow.proofs.largest_from.Goals as goal

pub fill-requires : goal.fill-requires
fill-requires c = record { sides = empty_sides c.requires c.rows.ensures (omega (arith, c.rows.auto.sets, c.requires.below.cells.nodes)); room = c.requires.headrooms }
