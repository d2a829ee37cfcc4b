-- `growth::sides::more` meets its contract, whether the bound is reached or not. Assumes nothing.
use native.Mathlib.Omega.{arith}
use Rattle.growth.proofs.Giving.{more_open, more_full}
use Rattle.growth.proofs.sides.more.Goals as goal

pub returns-then-y-most : goal.returns-then-y-most
returns-then-y-most c = rw (c.put.ensures, c.get.ensures) (more_open _ _ _ _ _ _ _ _ _ c.requires.sides c.requires.can_more c.with.ensures (omega (arith, c.if-y-most, c.get-most.ensures, c.get.ensures)))

pub returns : goal.returns
returns c = rw (c.put.ensures, c.get.ensures) (more_full _ _ _ _ _ _ _ _ _ c.requires.sides c.requires.can_more c.with.ensures _ c.without.ensures (omega (arith, c.if-y-most, c.get-most.ensures, c.get.ensures)))
