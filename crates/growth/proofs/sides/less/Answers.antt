-- `growth::sides::less` meets its contract, whether something is left or not. Assumes nothing.
use native.Mathlib.Omega.{arith}
use Rattle.growth.proofs.Giving.{less_some, less_none}
use Rattle.growth.proofs.sides.less.Goals as goal

pub returns-then-y-gt0 : goal.returns-then-y-gt0
returns-then-y-gt0 c = λ bound S. rw (c.put.ensures, c.get.ensures) (less_some _ bound _ _ _ _ _ _ _ S c.requires.can_less c.with.ensures (omega (arith, c.if-y-gt0, c.get.ensures)))

pub returns : goal.returns
returns c = λ bound S. rw (c.put.ensures, c.get.ensures) (less_none _ bound _ _ _ _ _ _ _ S c.requires.can_less c.with.ensures _ c.without.ensures (omega (arith, c.if-y-gt0, c.get.ensures)))
