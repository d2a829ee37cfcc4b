-- `slots::rounds::rounds` meets its contract: the loop keeps `Rounding`, and each turn writes a slot or more. Assumes nothing.
use native.Mathlib.Omega.{arith}
use Rattle.slots.proofs.RoundLaws.{round_start, round_more, round_few, round_end}
use Rattle.slots.proofs.rounds.rounds.Goals as goal

pub loop-t-init : goal.loop-t-init
loop-t-init c = round_start c.requires.settle c.begin-turn.ensures

pub overflow_add-changes : goal.overflow_add-changes
overflow_add-changes c = omega (arith, c.extend-changes.ensures.most, round_few c.requires.settle c.loop-t.invariant, c.requires.settle.frame.slots)

pub loop-t-preserved : goal.loop-t-preserved
loop-t-preserved c = round_more c.requires.settle c.loop-t.invariant c.next-turn.ensures c.extend-changes.ensures c.loop-t-test.true c.next-turn.auto.table c.next-turn.auto.may c.next-turn.auto.source c.next-turn.auto.destination c.next-turn.auto.bytes c.extend-changes.auto.schedule

pub returns : goal.returns
returns c = round_end c.requires.settle c.loop-t.invariant c.loop-t-test.false
