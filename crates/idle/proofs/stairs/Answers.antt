-- `idle::stairs` meets its contract: the rows and columns left behind lack nothing, so in the end no line does. Assumes nothing.
use mathlib.Core.Logic.{inl, inr}
use Rattle.idle.proofs.Pads.{stairs_end}
use Rattle.idle.proofs.stairs.Goals as goal

pub returns-else-j-n : goal.returns-else-j-n
returns-else-j-n c = stairs_end c.loop-i.invariant (inr c.if-j-n.false)

pub returns-after-loop-i : goal.returns-after-loop-i
returns-after-loop-i c = stairs_end c.loop-i.invariant (inl c.loop-i-test.false)
