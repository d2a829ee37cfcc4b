-- `slots::placing::rest` meets its contract: nothing is written where no slot is left, and else the idle setting. Assumes nothing.
use native.Mathlib.Omega.{arith}
use lib.ListN.{get_or-replicate}
use Rattle.slots.proofs.RoundLaws.{rest_some}
use Rattle.slots.proofs.placing.rest.Goals as goal

pub returns : goal.returns
returns c = rest_some (λ j hj. get_or-replicate 64 j 255 0 (omega (arith, c.requires.0.nodes))) c.extend.ensures
