-- `read` meets its contract: the groups of checks in their order, and the table of an accepted file is whole. Assumes nothing.
use native.Mathlib.Omega.{arith}
use mathlib.Core.Path.{refl, sym, ◌∙◌}
use Rattle.star.specs.declared.refusals.Refusal.TheVariants.{BadFile}
use Rattle.star.proofs.RefusalLaws.{raised, fires, passes, then_stops, then_goes, ranged, fires_found, passes_found, found_first}
use Rattle.files.specs.Reading.{read_verdict}
use Rattle.files.proofs.ReadLaws.{table_whole, head_read, refusal_read}
use Rattle.files.proofs.reading.read.Goals as goal

pub returns-then-table_bad : goal.returns-then-table_bad
unfolding read_verdict
returns-then-table_bad c = refusal_read _ refl (sym (then_stops _ (fires _ (sym c.table_bad.ensures ∙ c.if-table_bad.true)) refl))

pub returns-in_err-ranges : goal.returns-in_err-ranges
unfolding read_verdict
returns-in_err-ranges c = refusal_read _ (raised _ c.from_residual.ensures.1) (sym (then_goes (passes _ (sym c.table_bad.ensures ∙ c.if-table_bad.false) refl) refl (then_stops _ (rw c.of-head.ensures at c.in_err-ranges.ensures.verdict) refl)))

pub first_bad-requires : goal.first_bad-requires
first_bad-requires c = let w = table_whole c.args.file.now (sym c.table_bad.ensures ∙ c.if-table_bad.false) in
    let r = ranged _ _ _ _ (sym c.in_ok-ranges.ensures.verdict) in
    (r.sizes.nodes, rw c.of-head.ensures w.few, rw c.of-head.ensures w.all)

pub overflow_cast-result : goal.overflow_cast-result
overflow_cast-result c = let w = table_whole c.args.file.now (sym c.table_bad.ensures ∙ c.if-table_bad.false) in
    let bad = rw c.of-head.ensures at c.in-Some.ensures in
    omega (arith, (found_first (sym bad)).1, w.few)

pub returns-in-Some : goal.returns-in-Some
unfolding read_verdict
returns-in-Some c = let bad = rw c.of-head.ensures at c.in-Some.ensures in
    refusal_read _ refl (sym (then_goes (passes _ (sym c.table_bad.ensures ∙ c.if-table_bad.false) refl) refl
    (then_goes (rw c.of-head.ensures at c.in_ok-ranges.ensures.verdict) refl (fires_found _ _ BadFile _ (sym bad)))))

pub returns : goal.returns
unfolding read_verdict
returns c = let none = rw c.of-head.ensures at c.in_default.ensures in
    head_read _ (sym (then_goes (passes _ (sym c.table_bad.ensures ∙ c.if-table_bad.false) refl) refl
    (then_goes (rw c.of-head.ensures at c.in_ok-ranges.ensures.verdict) refl (passes_found _ _ _ (sym none) refl)))) c.of-head.ensures
