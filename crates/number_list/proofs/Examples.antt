-- Inputs, and the list of numbers that each of them is, if it is one: the edges of document 01's sentence, each by computation. Assumes nothing.
use Prim.Native.Nat.{ℕ}
use Prim.Native.String.{String}
use mathlib.Core.Path.{◌≡◌, refl}
use mathlib.Core.List.{List, [], ◌∷◌}
use mathlib.Core.Option.{none, some}
use Rattle.pieces.specs.Bytes.{bytes}
use Rattle.number_list.specs.Input.{list_of, numbers_of, words_from, is_number, all_digits, value_from}

-- the input is a list, of these numbers
abbrev reads : String → List ℕ → Type 0
reads input numbers = list_of (bytes input) ≡ some numbers

-- the input is no such list
abbrev junk : String → Type 0
junk input = list_of (bytes input) ≡ none

record Examples : Type 0 where
  -- a number has 1 to 9 digits; leading zeros are digits too
  one_digit : reads "0" (0 ∷ [])
  nine_digits : reads "999999999" (999999999 ∷ [])
  nine_with_zeros : reads "000000007" (7 ∷ [])
  ten_digits : junk "1000000000"
  ten_with_zeros : junk "0000000007"
  -- the first digit is the highest
  in_order : reads "120" (120 ∷ [])
  -- one or more spaces or line feeds, also at either end
  parted : reads "3 4\n5 \n\n 6" (3 ∷ 4 ∷ 5 ∷ 6 ∷ [])
  both_ends : reads " \n 3 4\n " (3 ∷ 4 ∷ [])
  -- a list may have no number
  nothing : reads "" []
  blank : reads " \n" []
  -- no other byte parts numbers: 9, 11, 12, 13, 0, and 160
  tab : junk "3\t4"
  vertical_tab : junk "3\u{b}4"
  form_feed : junk "3\u{c}4"
  carriage_return : junk "3\r\n4"
  zero_byte : junk "3\04"
  other_space : junk "3\u{a0}4"
  comma : junk "3,4"
  -- no other byte is a digit: a sign, a point, those next to 0 and 9, a letter
  plus : junk "+3"
  minus : junk "-3"
  point : junk "3.0"
  before_zero : junk "/"
  after_nine : junk ":"
  letter : junk "0x3"
  -- one word that is no number spoils the list, wherever it stands
  first_word : junk "x 4"
  last_word : junk "3 4 x"

examples : Examples
unfolding list_of numbers_of words_from is_number all_digits value_from
examples = record {
  one_digit = refl;
  nine_digits = refl;
  nine_with_zeros = refl;
  ten_digits = refl;
  ten_with_zeros = refl;
  in_order = refl;
  parted = refl;
  both_ends = refl;
  nothing = refl;
  blank = refl;
  tab = refl;
  vertical_tab = refl;
  form_feed = refl;
  carriage_return = refl;
  zero_byte = refl;
  other_space = refl;
  comma = refl;
  plus = refl;
  minus = refl;
  point = refl;
  before_zero = refl;
  after_nine = refl;
  letter = refl;
  first_word = refl;
  last_word = refl;
}
