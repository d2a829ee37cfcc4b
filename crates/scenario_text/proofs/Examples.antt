-- The printed lines and the room for them at their edges, by computation. Assumes nothing.
use mathlib.Core.Path.{◌≡◌, refl}
use mathlib.Core.List.{[], ◌∷◌, map}
use Rattle.star.specs.Refusals.{accepted, check, notice, verdict_number}
use Rattle.star.specs.Checks.{refuse}
use Rattle.pieces.specs.Bytes.{bytes}
use Rattle.pieces.specs.Pieces.{join_to}
use Rattle.pieces.specs.Text.{decimal, digits_in, marked}
use Rattle.scenario_text.specs.Lines.{line_text, pair_text, text_at, lines_text}
use Rattle.scenario_text.specs.Outcomes.{print_verdict, print_notice}

-- source, destination, posted, sent, dropped, waiting: document 01's case n
line_n : line_text 1 0 13 8 4 1 ≡ bytes "0 0 13 8 4 1\n"
unfolding line_text marked decimal digits_in
line_n = refl

-- pair (i,j) is cell i×N+j: of three nodes cell 5 is source 1, destination 2
line_pair : line_text 3 5 10 7 2 1 ≡ bytes "1 2 10 7 2 1\n"
unfolding line_text marked decimal digits_in
line_pair = refl

-- nothing for a pair without posts, whatever else its cells hold
no_line : pair_text 1 0 0 8 4 1 ≡ []
unfolding pair_text
no_line = refl

one_line : pair_text 1 0 1 0 0 1 ≡ bytes "0 0 1 0 0 1\n"
unfolding pair_text line_text marked decimal digits_in
one_line = refl

-- in row order, and no line for the pairs between; extra cells are not printed
lines : lines_text 2 (0 ∷ 5 ∷ 7 ∷ 0 ∷ 9 ∷ []) (0 ∷ 1 ∷ 2 ∷ 0 ∷ 9 ∷ []) (0 ∷ 1 ∷ 2 ∷ 0 ∷ 9 ∷ []) (0 ∷ 3 ∷ 3 ∷ 0 ∷ 9 ∷ []) ≡ bytes "0 1 5 1 1 3\n1 0 7 2 2 3\n"
unfolding lines_text text_at pair_text line_text join_to marked decimal digits_in
lines = refl

-- one byte too few for the longest text, and just enough
rooms : map print_notice (0 ∷ 516095 ∷ 516096 ∷ []) ≡ notice 5 0 ∷ notice 5 0 ∷ accepted ∷ []
unfolding print_notice check
rooms = refl

rooms_named : map (λ lent. verdict_number (print_verdict lent)) (516095 ∷ 516096 ∷ []) ≡ 5 ∷ 0 ∷ []
unfolding print_verdict refuse
rooms_named = refl
