-- `put_line` puts six numbers, each with a byte after it. Assumes nothing.
use Rattle.pieces.proofs.PieceLaws.{puts_more}
use Rattle.scenario_text.specs.Lines.{line_text}
use Rattle.scenario_text.proofs.lines.put_line.Goals as goal

pub returns-clause-puts : goal.returns-clause-puts
unfolding line_text
returns-clause-puts c =
    rw (← c.from.ensures)
    (puts_more (puts_more (puts_more (puts_more (puts_more c.put_number.ensures.puts c.put_number-2.ensures.puts) c.put_number-3.ensures.puts) c.put_number-4.ensures.puts) c.put_number-5.ensures.puts) c.put_number-6.ensures.puts)
