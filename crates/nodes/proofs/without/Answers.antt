-- `nodes::without` meets its contract: what the set shares with that of node i is taken out, digit by digit. Assumes nothing.
use Rattle.nodes.proofs.Members.{without_law}
use Rattle.nodes.proofs.without.Goals as goal

pub returns : goal.returns
returns c = without_law _ _ c.requires
