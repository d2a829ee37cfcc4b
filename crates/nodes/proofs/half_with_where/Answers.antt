-- `nodes::half_with_where` meets its contract: an or with the set of node i where the test holds. Assumes nothing.
use Rattle.nodes.proofs.Members.{with_law, with_where_added}
use Rattle.nodes.proofs.half_with_where.Goals as goal

pub returns-then-test : goal.returns-then-test
returns-then-test c = with_where_added c.if-test.true (with_law 32 _ _ c.requires)
