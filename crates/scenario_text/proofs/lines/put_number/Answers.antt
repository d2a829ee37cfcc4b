-- `put_number` puts a number of 64 bits, which has at most twenty digits, and a byte. Assumes nothing.
use native.Mathlib.Omega.{arith}
use Rattle.pieces.proofs.TextLaws.{decimal_length, marked_length}
use Rattle.scenario_text.proofs.lines.put_number.Goals as goal

pub put_marked-requires : goal.put_marked-requires
put_marked-requires c = omega (arith, c.requires, marked_length c.args.number c.args.mark, decimal_length 19 c.args.number (omega arith))

pub returns-clause-short : goal.returns-clause-short
returns-clause-short c = omega (arith, marked_length c.args.number c.args.mark, decimal_length 19 c.args.number (omega arith))
