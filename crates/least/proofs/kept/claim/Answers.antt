-- `claim` meets its contract: it is computed as it is defined. Assumes nothing.
use mathlib.Core.Path.{refl}
use Rattle.least.specs.Promises.{claim}
use Rattle.least.proofs.kept.claim.Goals as goal

pub returns : goal.returns
unfolding claim
returns c = refl
