-- `nodes::with` meets its contract: an or with the set of node i, digit by digit. Assumes nothing.
use Rattle.nodes.proofs.Members.{with_law}
use Rattle.nodes.proofs.with.Goals as goal

pub returns : goal.returns
returns c = with_law 64 _ _ c.requires
