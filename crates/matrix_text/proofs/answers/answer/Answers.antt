-- `answer` prints the outcome of the input: by the cases of its length and of what is read. Assumes nothing.
use mathlib.Core.Path.{◌≡◌, sym, ◌∙◌, ap, subst}
use Rattle.std.specs.Prelude.{None, Some}
use Rattle.pieces.specs.Text.{bad_input}
use Rattle.pieces.proofs.PieceLaws.{answered_text}
use Rattle.number_list.specs.Reads.{Holds, Reads}
use Rattle.matrix_text.specs.Outcomes.{outcome, Prints}
use Rattle.matrix_text.proofs.OutcomeLaws.{prints_long, prints_junk, prints_list}
use Rattle.matrix_text.proofs.answers.answer.Goals as goal
use Rattle.matrix_text.proofs.answers.answer.Goals.{in-Some, in-None, then-input-gt-MOST_BYTES, else-input-gt-MOST_BYTES}

pub returns : goal.returns
returns c =
    let input = c.args.input.now in
    elim c.match-listed.branch [
      | in-Some w ↦ elim c.if-input-gt-MOST_BYTES.branch [
        | then-input-gt-MOST_BYTES v ↦ let e : None ≡ Some w.in-Some.count = sym v.listed-is ∙ w.in-Some.is in cc
        | else-input-gt-MOST_BYTES v ↦
            let listed : v.read-listed.result ≡ Some w.in-Some.count = sym v.listed-is ∙ w.in-Some.is in
            let holds : Holds input c.if-input-gt-MOST_BYTES.table w.in-Some.count = subst (λ t. Holds input t w.in-Some.count) (sym v.table-is) (subst (Reads input v.read-listed.new.table) listed v.read-listed.ensures) in
            let judged = w.put_judged.ensures in
            answered_text c.new-text.ensures.bytes c.new-text.ensures.start (prints_list input v.if-input-gt-MOST_BYTES.false holds (judged.prints holds.numbers holds.stored)) judged.puts (ap (λ t. t.out.now) w.text-is) (c.length.ensures ∙ ap (λ t. t.at) w.text-is)
      ]
      | in-None w ↦
          let bad : Prints (outcome input) bad_input
          = elim c.if-input-gt-MOST_BYTES.branch [
            | then-input-gt-MOST_BYTES v ↦ prints_long input v.if-input-gt-MOST_BYTES.true
            | else-input-gt-MOST_BYTES v ↦ prints_junk input v.if-input-gt-MOST_BYTES.false (subst (Reads input v.read-listed.new.table) (sym v.listed-is ∙ w.in-None.is) v.read-listed.ensures)
          ] in
          answered_text c.new-text.ensures.bytes c.new-text.ensures.start bad w.put_bad_input.ensures (ap (λ t. t.out.now) w.text-is) (c.length.ensures ∙ ap (λ t. t.at) w.text-is)
    ]
