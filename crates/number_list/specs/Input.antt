-- The input: decimal numbers of 1 to 9 digits parted by one or more spaces or line feeds (also allowed at either end).
use Rattle.std.specs.Prelude.{ℕ, ◌+◌, ◌-◌, ◌*◌, Bool, true, false, ◌||◌, ◌&&◌, List, [], ◌∷◌, ◌++◌, eqb, leb, length}
use Rattle.std.proofs.Math.Option.{Option, none, some}

-- a space or a line feed
abbrev pub parts : ℕ → Bool
parts b = eqb b 32 || eqb b 10

-- one of the bytes 48 to 57
abbrev pub is_digit : ℕ → Bool
is_digit b = leb 48 b && leb b 57

unfoldable pub all_digits : List ℕ → Bool
all_digits [] = true
all_digits (b ∷ word) = all_digits word && is_digit b

-- at most 9 bytes, and each of them a digit; leading zeros are digits like any other
unfoldable pub is_number : List ℕ → Bool
is_number word = leb (length word) 9 && all_digits word

-- the decimal number that the digits make, where v is what those before them make
unfoldable pub value_from : (v : ℕ) (digits : List ℕ) → ℕ
value_from v [] = v
value_from v (b ∷ digits) = value_from (v * 10 + (b - 48)) digits

-- the words that spaces and line feeds part, where `word` is what is read of the word at hand; between two that part lies an empty word
unfoldable pub words_from : (word input : List ℕ) → List (List ℕ)
words_from word [] = word ∷ []
words_from word (b ∷ input) = elim (parts b) [ true ↦ word ∷ words_from [] input | false ↦ words_from (word ++ (b ∷ [])) input ]

-- a list of numbers after other numbers
abbrev pub after : List ℕ → Option (List ℕ) → Option (List ℕ)
after done none = none
after done (some numbers) = some (done ++ numbers)

-- the numbers that the words are, or none where a word is no number; an empty word says nothing
unfoldable pub numbers_of : List (List ℕ) → Option (List ℕ)
numbers_of [] = some []
numbers_of ([] ∷ words) = numbers_of words
numbers_of ((b ∷ digits) ∷ words) = elim (is_number (b ∷ digits)) [ true ↦ after (value_from 0 (b ∷ digits) ∷ []) (numbers_of words) | false ↦ none ]

-- the list of numbers that the input is, or none where it is not such a list
unfoldable pub list_of : List ℕ → Option (List ℕ)
list_of input = numbers_of (words_from [] input)
