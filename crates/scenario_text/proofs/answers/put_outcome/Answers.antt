-- `put_outcome` meets its contract, by the input's length and by what is read. Assumes nothing.
use native.Mathlib.Omega.{arith}
use Rattle.pieces.proofs.TextLaws.{refusal_fits}
use Rattle.scenario_text.proofs.OutcomeLaws.{puts_refused, read_accepted, read_nodes, puts_played}
use Rattle.scenario_text.proofs.answers.put_outcome.Goals as goal

pub put_run-requires-clause-accepted : goal.put_run-requires-clause-accepted
put_run-requires-clause-accepted c = read_accepted c.args.input.now c.read.ensures.answer c.in-Ok.is

pub put_run-requires-clause-nodes : goal.put_run-requires-clause-nodes
put_run-requires-clause-nodes c = read_nodes c.args.input.now c.read.ensures.answer c.in-Ok.is

pub returns-in-Ok-clause-puts : goal.returns-in-Ok-clause-puts
returns-in-Ok-clause-puts c = puts_played c.args.input.now c.read.ensures.answer c.if-input-gt-MOST_BYTES.false c.in-Ok.is c.put_run.ensures.puts

pub returns-in-Err-clause-puts : goal.returns-in-Err-clause-puts
returns-in-Err-clause-puts c = puts_refused c.args.input.now c.read.ensures.answer c.if-input-gt-MOST_BYTES.false c.in-Err.is (rw (← c.number.ensures, ← c.place.ensures, ← c.from.ensures, ← c.from-in-Err.ensures) c.put_refusal.ensures)

pub returns-in-Err-clause-short : goal.returns-in-Err-clause-short
returns-in-Err-clause-short c = omega (arith, c.put_refusal.ensures, refusal_fits c.from.result c.from-in-Err.result (omega arith) (omega arith))
