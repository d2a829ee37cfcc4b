-- `nodes::both` meets its contract: an and, digit by digit. Assumes nothing.
use Rattle.nodes.proofs.Members.{and_member}
use Rattle.nodes.proofs.both.Goals as goal

pub returns : goal.returns
returns c = record { members = λ j. and_member j _ _ }
