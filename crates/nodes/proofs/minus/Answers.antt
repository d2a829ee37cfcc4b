-- `nodes::minus` meets its contract: what both share is taken out, digit by digit. Assumes nothing.
use Rattle.nodes.proofs.Members.{minus_law}
use Rattle.nodes.proofs.minus.Goals as goal

pub returns : goal.returns
returns c = record { members = λ j. minus_law _ _ j }
