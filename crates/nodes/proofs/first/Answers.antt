-- `nodes::first` meets its contract: the trailing zeros are the digits before the first 1. Assumes nothing.
use Rattle.nodes.proofs.Members.{first_law}
use Rattle.nodes.proofs.first.Goals as goal

pub returns : goal.returns
returns c = first_law _
