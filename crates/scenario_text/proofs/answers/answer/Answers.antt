-- `answer` puts the answer from the front. Assumes nothing.
use borrow.Author.Rules.{rules}
use Rattle.pieces.proofs.PieceLaws.{answered_text}
use Rattle.scenario_text.proofs.answers.answer.Goals as goal

pub returns : goal.returns
returns c =
    let put = c.put_outcome.ensures.puts in
    answered_text c.new-text.ensures.bytes c.new-text.ensures.start put.prints put.puts (search rules) c.length.ensures
