-- `slots::placing::place` meets its contract: the first n * n cells are lent, so that the others stay as they are. Assumes nothing.
use Rattle.slots.proofs.RoundLaws.{front_can, front_places}
use Rattle.slots.proofs.placing.place.Goals as goal

pub place_exactly-requires-clause-can_place : goal.place_exactly-requires-clause-can_place
place_exactly-requires-clause-can_place c = front_can c.requires

pub returns : goal.returns
returns c = front_places c.place_exactly.ensures
