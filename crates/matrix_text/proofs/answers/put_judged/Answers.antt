-- `put_judged` prints what the order of document 01 asks for: fewer than three numbers are bad input, and else it is what is printed of plan's answer, since
-- the table stores all demands where their count is right. Assumes nothing.
use Prim.Native.Nat.{ℕ, ◌-◌, ◌*◌}
use lib.Dec.{eqb}
use lib.ListN.{get_or, take, length-replicate}
use borrow.Author.Rules.{rules}
use Rattle.pieces.specs.Text.{bad_input}
use Rattle.matrix_text.specs.Writes.{answer_text}
use Rattle.matrix_text.proofs.OutcomeLaws.{few_print, printable, stored_prints}
use Rattle.matrix_text.proofs.answers.put_judged.Goals as goal

pub returns-in_default : goal.returns-in_default
returns-in_default c = record {
  text = bad_input;
  prints = λ numbers s. few_print c.args.table.now numbers c.args.count c.min.result (search rules) c.min.ensures s c.in_default.len_below;
  puts = c.put_bad_input.ensures;
}

pub put_answer-requires-clause-printable : goal.put_answer-requires-clause-printable
put_answer-requires-clause-printable c = printable _ c.plan-answer.ensures

pub returns : goal.returns
returns c =
    let front = take c.min.result c.args.table.now in
    let n = get_or front 0 0 in
    record {
      text = answer_text (eqb (c.args.count - 3) (n * n)) n (get_or front 1 0) (get_or front 2 0) c.plan-answer.new.kept c.plan-answer.result;
      prints = λ numbers s. stored_prints c.args.table.now numbers c.args.count c.min.result (search rules) c.min.ensures s c.in-len3-up.len_at_least c.plan-answer.result c.plan-answer.ensures (length-replicate {A = ℕ} 4096 0) (length-replicate {A = ℕ} 4096 0) (length-replicate {A = ℕ} 65536 0);
      puts = c.put_answer.ensures;
    }
