-- `slots::placing::place_exactly` meets its contract: the steps one after the other: nothing is placed, all is placed, and the slots after it are idle. Assumes nothing.
use native.Mathlib.Omega.{arith}
use mathlib.Core.Path.{◌∙◌}
use Rattle.arrays.proofs.Stores.{frame_kept}
use Rattle.changes.proofs.ChangeLaws.{changes_most}
use Rattle.slots.proofs.RoundLaws.{place_small, place_most, place_settle, place_end}
use Rattle.slots.proofs.placing.place_exactly.Goals as goal

pub pad-r-requires : goal.pad-r-requires
pad-r-requires c = record { square = c.requires.can_place.square; small = place_small c.requires.can_place }

pub settle-changes-requires : goal.settle-changes-requires
settle-changes-requires c = place_settle c.requires.can_place c.pad-r.ensures c.pad-r.auto.table

pub rest-requires : goal.rest-requires
rest-requires c = (frame_kept c.args.schedule.now _ c.settle-changes.auto.schedule c.requires.can_place.frame, place_most c.requires.can_place c.pad-r.ensures)

pub overflow_add-result : goal.overflow_add-result
overflow_add-result c = omega (arith, c.settle-changes.ensures.changed, changes_most c.args.n c.pad-r.result c.settle-changes.new.schedule, place_most c.requires.can_place c.pad-r.ensures, c.requires.can_place.frame.slots, c.rest.ensures.most)

pub returns : goal.returns
returns c = place_end c.requires.can_place c.pad-r.ensures c.requires.exact (c.settle-changes.auto.table ∙ c.pad-r.auto.table) c.settle-changes.ensures c.rest.ensures
