-- `nodes::with_where` meets its contract: an or with the set of node i or of none, by the two cases of the test. Assumes nothing.
use Rattle.nodes.proofs.Members.{with_where_law}
use Rattle.nodes.proofs.with_where.Goals as goal

pub returns : goal.returns
returns c = rw c.from.ensures (with_where_law _ _ _ c.requires)
