-- Pieces of text, to the byte: the edges of numbers, and the lines that both programs print, each by computation. Assumes nothing.
use mathlib.Core.Path.{◌≡◌, refl}
use mathlib.Core.List.{[], ◌∷◌}
use lib.ListN.{length}
use Rattle.pieces.specs.Bytes.{bytes}
use Rattle.pieces.specs.Pieces.{join_to}
use Rattle.pieces.specs.Text.{decimal, digits_in, line_feed, marked, named, bad_input, refusal_text, line_room}

record Examples : Type 0 where
  -- the bytes of a text
  as_bytes : bytes "09 \naz" ≡ 48 ∷ 57 ∷ 32 ∷ 10 ∷ 97 ∷ 122 ∷ []
  feed : line_feed ≡ 10 ∷ []
  -- no leading zeros; 0 is one digit, and so is 9
  nought : decimal 0 ≡ bytes "0"
  nine : decimal 9 ≡ bytes "9"
  ten : decimal 10 ≡ bytes "10"
  -- the highest digit comes first
  in_order : decimal 120 ≡ bytes "120"
  -- the largest numbers of 32 and of 64 bits
  largest_32 : decimal 4294967295 ≡ bytes "4294967295"
  largest_64 : decimal 18446744073709551615 ≡ bytes "18446744073709551615"
  -- the byte follows the number, the number the word
  before_space : marked 7 32 ≡ bytes "7 "
  before_feed : marked 10 10 ≡ bytes "10\n"
  after_word : named (bytes "nodes ") 64 ≡ bytes "nodes 64"
  -- pieces in a row: none, one, and the first before the second
  no_piece : join_to 0 decimal ≡ []
  one_piece : join_to 1 decimal ≡ bytes "0"
  two_pieces : join_to 2 decimal ≡ bytes "01"
  -- the lines
  bad : bad_input ≡ 98 ∷ 97 ∷ 100 ∷ 32 ∷ 105 ∷ 110 ∷ 112 ∷ 117 ∷ 116 ∷ 10 ∷ []
  refused : refusal_text 6 3 ≡ bytes "refused 6 3\n"
  -- the number comes before the place
  number_first : refusal_text 10 0 ≡ bytes "refused 10 0\n"
  -- the longest line fills the room
  longest : length (refusal_text 18446744073709551615 18446744073709551615) ≡ line_room

examples : Examples
unfolding join_to decimal digits_in marked named refusal_text
examples = record {
  as_bytes = refl;
  feed = refl;
  nought = refl;
  nine = refl;
  ten = refl;
  in_order = refl;
  largest_32 = refl;
  largest_64 = refl;
  before_space = refl;
  before_feed = refl;
  after_word = refl;
  no_piece = refl;
  one_piece = refl;
  two_pieces = refl;
  bad = refl;
  refused = refl;
  number_first = refl;
  longest = refl;
}
