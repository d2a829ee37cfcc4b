-- `holds::turns::next` meets its contract: all are paired, what follows is heard, and as much is taken. Assumes nothing.
use Rattle.holds.proofs.TurnLaws.{turn_hear, turn_take, turn_next}
use Rattle.holds.proofs.turns.next.Goals as goal

pub hear-h-requires : goal.hear-h-requires
hear-h-requires c = turn_hear c.requires c.pair-ready.ensures

pub take-free-requires : goal.take-free-requires
take-free-requires c = turn_take c.requires c.pair-ready.ensures c.hear-h.ensures

pub returns : goal.returns
returns c = turn_next c.requires c.pair-ready.ensures c.hear-h.ensures c.take-free.ensures
