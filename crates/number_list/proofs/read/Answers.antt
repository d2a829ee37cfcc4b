-- `read` finds the list that the input is, or that it is none. The loop's invariant is `Reading`: the numbers done, the word at hand and what is left make
-- the list; each byte keeps it, or spoils the list. Assumes nothing.
use native.Mathlib.Omega.{arith}
use mathlib.Core.Path.{◌≡◌, sym, ◌∙◌}
use mathlib.Core.Bool.{true, false}
use lib.ListN.{get_or}
use borrow.Author.Rules.{rules}
use Rattle.number_list.specs.Input.{parts}
use Rattle.number_list.proofs.InputLaws.{reading_start, reading_fits, reading_digit, reading_long, reading_junk, reading_part, reading_end, digit_high}
use Rattle.number_list.proofs.read.Goals as goal

pub loop-b-init : goal.loop-b-init
loop-b-init c = reading_start _ _

pub returns-then-digits-eq9 : goal.returns-then-digits-eq9
returns-then-digits-eq9 c = reading_long _ _ _ _ _ _ c.loop-b.invariant c.loop-b-test.true (sym c.is_ascii_digit.ensures.value ∙ c.if-is_ascii_digit.true) c.if-digits-eq9.true

pub overflow_mul-value : goal.overflow_mul-value
overflow_mul-value c = omega (arith, reading_fits _ _ _ _ _ _ c.loop-b.invariant (omega (arith, c.loop-b.invariant.few)))

pub overflow_add-value : goal.overflow_add-value
overflow_add-value c =
    omega (arith, c.from.ensures, reading_fits _ _ _ _ _ _ c.loop-b.invariant (omega (arith, c.loop-b.invariant.few)), digit_high (get_or c.args.input.now c.loop-b.b-index 0) (sym c.is_ascii_digit.ensures.value ∙ c.if-is_ascii_digit.true))

pub overflow_add-digits : goal.overflow_add-digits
overflow_add-digits c = omega (arith, c.loop-b.invariant.few)

pub loop-b-preserved-then-is_ascii_digit : goal.loop-b-preserved-then-is_ascii_digit
loop-b-preserved-then-is_ascii_digit c =
    rw c.from.ensures (reading_digit _ _ _ _ _ _ c.loop-b.invariant c.loop-b-test.true (sym c.is_ascii_digit.ensures.value ∙ c.if-is_ascii_digit.true) (omega (arith, c.loop-b.invariant.few)))

pub end_word-count-requires : goal.end_word-count-requires
end_word-count-requires c = omega (arith, c.loop-b.invariant.slow)

pub returns-then-not-matches : goal.returns-then-not-matches
returns-then-not-matches c =
    let other : parts (get_or c.args.input.now c.loop-b.b-index 0) ≡ false = search rules in
    reading_junk _ _ _ _ _ _ c.loop-b.invariant c.loop-b-test.true (sym c.is_ascii_digit.ensures.value ∙ c.if-is_ascii_digit.false) other

pub loop-b-preserved : goal.loop-b-preserved
loop-b-preserved c =
    let parted : parts (get_or c.args.input.now c.loop-b.b-index 0) ≡ true = search rules in
    reading_part _ _ _ _ _ _ c.loop-b.invariant _ _ c.end_word-count.ensures c.loop-b-test.true parted

pub end_word-requires : goal.end_word-requires
end_word-requires c = omega (arith, c.loop-b.invariant.slow)

pub returns : goal.returns
returns c = reading_end _ _ _ _ _ _ c.loop-b.invariant _ _ c.end_word.ensures (omega (arith, c.loop-b-test.false))
