-- `at_least::rows` meets its contract: two halves that are empty take the rows below 32 and the others, and are joined. Assumes nothing.
use native.Mathlib.Omega.{arith}
use Rattle.at_least.proofs.HalfLaws.{fresh_half, halves_at_least}
use Rattle.at_least.proofs.rows.Goals as goal

pub add_rows-requires : goal.add_rows-requires
add_rows-requires c = (c.requires.0, fresh_half c.requires.0.nodes (omega arith) (omega arith) (omega arith))

pub add_rows-requires-2 : goal.add_rows-requires-2
add_rows-requires-2 c = (c.requires.0, fresh_half c.requires.0.nodes (omega arith) (omega arith) (omega arith))

pub returns : goal.returns
returns c = halves_at_least c.min-middle.ensures c.add_rows.ensures c.add_rows-2.ensures c.join.ensures
