-- `holds::turns::pair` meets its contract: where not all are paired the level falls, and it never is below 1 (`level_two`). Assumes nothing.
use native.Mathlib.Omega.{arith}
use mathlib.Core.Path.{◌∙◌}
use Rattle.holds.proofs.TurnLaws.{seek_matched, level_two, seek_lower}
use Rattle.holds.proofs.turns.pair.Goals as goal

pub lower-level-requires : goal.lower-level-requires
lower-level-requires c = (level_two (seek_matched c.loop-free.invariant.standing c.match_all-free.auto.source c.match_all-free.auto.destination c.match_all-free.ensures) c.requires.even (c.match_all-free.ensures.none _ c.first.ensures (omega (arith, c.if-first-n.false))), c.loop-free.invariant.standing.most)

pub loop-free-preserved : goal.loop-free-preserved
loop-free-preserved c = record { may_len = c.allow.auto.may ∙ c.loop-free.invariant.may_len; source_len = c.match_all-free.auto.source ∙ c.loop-free.invariant.source_len; destination_len = c.match_all-free.auto.destination ∙ c.loop-free.invariant.destination_len; standing = seek_lower (seek_matched c.loop-free.invariant.standing c.match_all-free.auto.source c.match_all-free.auto.destination c.match_all-free.ensures) c.allow.auto.may c.allow.ensures c.lower-level.ensures.0 c.lower-level.ensures.1; few = omega arith }
