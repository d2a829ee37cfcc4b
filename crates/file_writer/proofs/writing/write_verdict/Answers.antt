-- `write_verdict` meets its contract: the groups of checks in their order. Assumes nothing.
use mathlib.Core.Path.{refl, sym, ◌∙◌}
use borrow.Author.Tests.{le-ltb}
use Rattle.star.specs.declared.refusals.Refusal.TheVariants.{BadFile}
use Rattle.star.proofs.RefusalLaws.{passes, then_stops, then_goes, ranged, fires_found, passes_found}
use Rattle.file_writer.specs.Writing.{first_unknown, write_verdict}
use Rattle.file_writer.proofs.SearchLaws.{position_found}
use Rattle.file_writer.proofs.writing.write_verdict.Goals as goal

pub returns-in-Some : goal.returns-in-Some
unfolding write_verdict first_unknown
returns-in-Some c = then_goes (passes _ (le-ltb _ _ c.if-kinds-gt4096.false) refl) refl (then_goes c.in_ok-ranges.ensures.verdict refl (then_stops _ (fires_found _ _ BadFile _ (sym (position_found _ c.args.kinds.now) ∙ sym c.in-Some.ensures)) refl))

pub cells_verdict-requires : goal.cells_verdict-requires
cells_verdict-requires c = ((ranged _ _ _ _ (sym c.in_ok-ranges.ensures.verdict)).sizes.nodes, c.if-kinds-gt4096.false)

pub returns : goal.returns
unfolding write_verdict first_unknown
returns c = then_goes (passes _ (le-ltb _ _ c.if-kinds-gt4096.false) refl) refl (then_goes c.in_ok-ranges.ensures.verdict refl (then_goes (passes_found _ _ _ (sym (position_found _ c.args.kinds.now) ∙ sym c.in_default.ensures) refl) refl c.cells_verdict.ensures))
