-- `nodes::none` meets its contract: no binary digit of 0 is 1. Assumes nothing.
use Rattle.nodes.proofs.Members.{member_none}
use Rattle.nodes.proofs.none.Goals as goal

pub returns : goal.returns
returns c = record { out = member_none }
