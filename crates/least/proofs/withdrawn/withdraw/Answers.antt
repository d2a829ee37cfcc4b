-- `withdraw` meets its contract: the largest matrix below D and the excesses is a greatest withdrawn one. Assumes nothing.
use Rattle.least.proofs.Withdrawals.{certified_is_withdrawn}
use Rattle.least.proofs.withdrawn.withdraw.Goals as goal

pub returns : goal.returns
returns c = certified_is_withdrawn _ _ _ _ c.excesses.ensures c.largest.ensures.0
