-- `put_number` puts the decimal digits of a number: its only one, its two, or those of a hundredth of it and the last two. The measure is the number.
-- Assumes nothing.
use native.Mathlib.Omega.{arith}
use Rattle.pieces.proofs.PieceLaws.{puts_more}
use Rattle.pieces.proofs.TextLaws.{one_digit, decimal_digit, two_digits, two_digits_more, two_length, two_more_length}
use Rattle.pieces.proofs.Pieces.+put_number.Goals as goal

pub put_byte-requires : goal.put_byte-requires
put_byte-requires t c = omega (arith, c.requires, one_digit c.args.n c.if-n-lt10.true)

pub returns-then-n-lt10 : goal.returns-then-n-lt10
returns-then-n-lt10 t c = rw (decimal_digit c.args.n c.if-n-lt10.true) c.put_byte.ensures

pub put_byte-requires-then-n-lt100 : goal.put_byte-requires-then-n-lt100
put_byte-requires-then-n-lt100 t c = omega (arith, c.requires, two_length c.args.n c.if-n-lt10.false c.if-n-lt100.true)

pub put_byte-requires-then-n-lt100-2 : goal.put_byte-requires-then-n-lt100-2
put_byte-requires-then-n-lt100-2 t c = omega (arith, c.requires, two_length c.args.n c.if-n-lt10.false c.if-n-lt100.true, c.put_byte-then-n-lt100.ensures)

pub returns-then-n-lt100 : goal.returns-then-n-lt100
returns-then-n-lt100 t c = rw (two_digits c.args.n c.if-n-lt10.false c.if-n-lt100.true) (puts_more c.put_byte-then-n-lt100.ensures c.put_byte-then-n-lt100-2.ensures)

pub put_number-requires : goal.put_number-requires
put_number-requires t c = (omega arith, omega (arith, c.requires, two_more_length c.args.n c.if-n-lt100.false))

pub put_byte-requires-2 : goal.put_byte-requires-2
put_byte-requires-2 t c = omega (arith, c.requires, two_more_length c.args.n c.if-n-lt100.false, c.put_number.ensures)

pub put_byte-requires-3 : goal.put_byte-requires-3
put_byte-requires-3 t c = omega (arith, c.requires, two_more_length c.args.n c.if-n-lt100.false, c.put_number.ensures, c.put_byte-2.ensures)

pub returns : goal.returns
returns t c = rw (two_digits_more c.args.n c.if-n-lt100.false) (puts_more (puts_more c.put_number.ensures c.put_byte-2.ensures) c.put_byte-3.ensures)
