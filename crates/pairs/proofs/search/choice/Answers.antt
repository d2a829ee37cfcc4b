-- `pairs::search::choice` meets its contract: what the sources share with those that may be heard, and the first of it. Assumes nothing.
use Rattle.pairs.proofs.Scans.{choice_law}
use Rattle.pairs.proofs.search.choice.Goals as goal

pub returns : goal.returns
returns c = choice_law _ _ _ _ _ _ _ c.set_at.ensures c.both.ensures c.first.ensures c.requires.0
