-- `keep` meets its contract: it lends the first n * n cells, so that the others stay as they are. Assumes nothing.
use Prim.Native.Nat.{◌*◌}
use mathlib.Core.List.{◌++◌}
use mathlib.Core.Path.{ap}
use lib.ListN.{drop}
use Rattle.sums.specs.Tables.{written}
use Rattle.least.proofs.kept.keep.Goals as goal

pub returns : goal.returns
unfolding written
returns c = let args = c.args in
    ap (λ x. x ++ drop (args.n * args.n) args.kept.now) c.keep_exactly.ensures
