-- `idle::pad_at` meets its contract: both lines of the pair gain what they lack less. Assumes nothing.
use native.Mathlib.Omega.{arith}
use mathlib.Core.Path.{refl}
use Rattle.idle.proofs.Pads.{pad_small, pad_law}
use Rattle.idle.proofs.pad_at.Goals as goal

pub give-requires : goal.give-requires
give-requires c = record { square = c.requires.can_pad.square; pair = (c.requires.pair.0, c.requires.pair.1, omega (arith, pad_small c.requires.can_pad c.requires.pair.0 c.requires.pair.1 refl refl c.min-idle.ensures)) }

pub returns : goal.returns
returns c = pad_law c.requires.can_pad c.requires.pair.0 c.requires.pair.1 refl refl c.min-idle.ensures c.give.ensures
