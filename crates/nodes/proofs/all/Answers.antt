-- `nodes::all` meets its contract: every binary digit below 64 of the largest number is 1. Assumes nothing.
use Rattle.nodes.proofs.Members.{member_all}
use Rattle.nodes.proofs.all.Goals as goal

pub returns : goal.returns
returns c = record { in' = λ i lt. member_all 64 i lt }
