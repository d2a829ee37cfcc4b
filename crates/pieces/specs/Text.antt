-- What the programs print, as bytes. Every number is printed without leading zeros and every line ends with a line feed.
use Rattle.std.specs.Prelude.{ℕ, zero, suc, ◌+◌, ◌/◌, ◌%◌, true, false, List, [], ◌∷◌, ◌++◌, ltb}
use Rattle.pieces.specs.Bytes.{bytes}

-- the decimal digits of n in as many turns as are given, a digit each
unfoldable pub digits_in : (turns n : ℕ) → List ℕ
digits_in zero n = []
digits_in (suc turns) n = elim (ltb n 10) [ true ↦ (48 + n) ∷ [] | false ↦ digits_in turns (n / 10) ++ ((48 + n % 10) ∷ []) ]

-- a number without leading zeros; 0 is one digit. More than n turns are enough.
unfoldable pub decimal : ℕ → List ℕ
decimal n = digits_in (suc n) n

abbrev pub line_feed : List ℕ
line_feed = bytes "\n"

-- a number and the byte after it
unfoldable pub marked : (n mark : ℕ) → List ℕ
marked n mark = decimal n ++ (mark ∷ [])

-- a word and a number
unfoldable pub named : (word : List ℕ) (n : ℕ) → List ℕ
named word n = word ++ decimal n

-- "bad input", and a line feed
abbrev pub bad_input : List ℕ
bad_input = bytes "bad input\n"

-- A refusal prints one line, as `refused 6 3`: the number, the place.
unfoldable pub refusal_text : (number place : ℕ) → List ℕ
refusal_text number place = named (bytes "refused ") number ++ named (bytes " ") place ++ line_feed

-- Room for `bad input` and for the longest refusal: "refused ", two numbers of at most twenty digits, a space and a line feed.
abbrev pub line_room : ℕ
line_room = 50
