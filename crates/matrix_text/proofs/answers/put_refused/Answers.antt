-- `put_refused` prints a refusal, or `bad input` where the count of demands comes first and is wrong: by the cases of its test. Assumes nothing.
use native.Mathlib.Omega.{arith}
use mathlib.Core.Path.{◌≡◌, sym, ◌∙◌}
use borrow.Author.Tests.{leb-true, leb-false}
use Rattle.star.specs.Refusals.{refusal_number, refusal_place}
use Rattle.pieces.specs.Text.{bad_input, refusal_text}
use Rattle.matrix_text.specs.Writes.{refused_text}
use Rattle.matrix_text.proofs.OutcomeLaws.{refused_early, refused_whole, refused_late}
use Rattle.matrix_text.proofs.answers.put_refused.Goals as goal
use Rattle.matrix_text.proofs.answers.put_refused.Goals.{then-whole, else-whole}

pub returns-then-number-le3 : goal.returns-then-number-le3
returns-then-number-le3 c =
    let x = c.args.refusal in
    let given : refused_text c.args.whole x ≡ refusal_text (refusal_number x) (refusal_place x)
    = elim c.if-whole.branch [
      | then-whole w ↦ refused_whole c.args.whole x w.if-whole.true
      | else-whole w ↦ refused_early c.args.whole x (omega (arith, w.number.ensures, leb-true _ _ (sym w.value-is ∙ c.if-number-le3.true)))
    ] in
    rw (given, ← c.number-then-number-le3.ensures, ← c.place.ensures, ← c.from.ensures, ← c.from-then-number-le3.ensures) c.put_refusal.ensures

pub returns-else-number-le3 : goal.returns-else-number-le3
returns-else-number-le3 c =
    let x = c.args.refusal in
    let late : refused_text c.args.whole x ≡ bad_input
    = elim c.if-whole.branch [
      | then-whole w ↦ cc
      | else-whole w ↦ refused_late c.args.whole x (omega (arith, w.number.ensures, leb-false _ _ (sym w.value-is ∙ c.if-number-le3.false))) w.if-whole.false
    ] in
    rw late c.put_bad_input.ensures
