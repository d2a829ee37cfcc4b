-- `nodes::joined` meets its contract: an or with the high half shifted past the low one, digit by digit. Assumes nothing.
use Rattle.nodes.proofs.Members.{joined_law}
use Rattle.nodes.proofs.joined.Goals as goal

pub returns : goal.returns
returns c = rw (c.from.ensures, c.from-2.ensures) (joined_law _ _ c.ranges.low.fits c.ranges.high.fits)
