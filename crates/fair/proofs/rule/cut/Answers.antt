-- `cut` lends the first n * n cells, so that the others stay as they are. Assumes nothing.
use Rattle.sums.proofs.Tables.{take_replicate}
use Rattle.sums.specs.Tables.{written}
use lib.Seq.{length-take-le}
use native.Mathlib.Omega.{arith}
use lib.ListN.{drop}
use mathlib.Core.List.{◌++◌}
use mathlib.Core.Path.{ap}
use Prim.Native.Nat.{◌*◌}
use Rattle.fair.proofs.rule.cut.Goals as goal

pub cut_exactly-requires : goal.cut_exactly-requires
cut_exactly-requires c = record { square = c.requires.square; demands = c.requires.demands; capacities = c.requires.capacities; cells = length-take-le _ _ c.requires.room; none = take_replicate (2 * c.args.n) 128 0 (omega (arith, c.requires.square.nodes)) }

pub returns : goal.returns
unfolding written
returns c = ap (λ x. x ++ drop (c.args.n * c.args.n) c.args.kept.now) c.cut_exactly.ensures
