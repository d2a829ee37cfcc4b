-- `print` meets its contract, by the number of lent bytes. Assumes nothing.
use mathlib.Core.Path.{refl}
use borrow.Author.Rules.{rules}
use borrow.Author.Tests.{lt-ltb, le-ltb}
use Rattle.pieces.proofs.PieceLaws.{answered_text}
use Rattle.scenario_text.proofs.OutcomeLaws.{printed, not_printed}
use Rattle.scenario_text.proofs.answers.print.Goals as goal

pub returns-then-text-lt-LONGEST_TEXT : goal.returns-then-text-lt-LONGEST_TEXT
returns-then-text-lt-LONGEST_TEXT c = not_printed c.args.file.now (lt-ltb _ _ c.if-text-lt-LONGEST_TEXT.true) refl

pub returns : goal.returns
returns c =
    let put = c.put_outcome.ensures.puts in
    printed c.args.file.now (le-ltb _ _ c.if-text-lt-LONGEST_TEXT.false)
    (answered_text c.new-pieces.ensures.bytes c.new-pieces.ensures.start put.prints put.puts (search rules) c.length.ensures)
