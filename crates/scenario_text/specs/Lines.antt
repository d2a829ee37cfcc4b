-- The lines of a run: one per pair with anything posted, in row order.
use Rattle.std.specs.Prelude.{ℕ, ◌*◌, ◌/◌, ◌%◌, cond, List, [], ◌++◌, get_or, eqb}
use Rattle.pieces.specs.Pieces.{join_to}
use Rattle.pieces.specs.Text.{marked}
use Rattle.calls.specs.Held.{Held}

-- Source, destination, posted, sent, dropped, waiting, parted by one space, and a line feed; pair (i,j) is cell i×N+j.
unfoldable pub line_text : (n pair posted sent dropped waiting : ℕ) → List ℕ
line_text n pair posted sent dropped waiting =
    marked (pair / n) 32 ++ marked (pair % n) 32 ++ marked posted 32 ++ marked sent 32 ++ marked dropped 32 ++ marked waiting 10

-- a line for a pair with anything posted, and nothing for another
unfoldable pub pair_text : (n pair posted sent dropped waiting : ℕ) → List ℕ
pair_text n pair posted sent dropped waiting = cond (eqb posted 0) [] (line_text n pair posted sent dropped waiting)

unfoldable pub text_at : (n : ℕ) (posted sent dropped waiting : List ℕ) (pair : ℕ) → List ℕ
text_at n posted sent dropped waiting pair = pair_text n pair (get_or posted pair 0) (get_or sent pair 0) (get_or dropped pair 0) (get_or waiting pair 0)

-- the pairs in row order
unfoldable pub lines_text : (n : ℕ) (posted sent dropped waiting : List ℕ) → List ℕ
lines_text n posted sent dropped waiting = join_to (n * n) (text_at n posted sent dropped waiting)

-- the lines of what is held
abbrev pub held_text : (n : ℕ) (h : Held) → List ℕ
held_text n h = lines_text n h.posted h.sent h.dropped h.waiting

-- Room for the longest text: 4,096 lines of six numbers of at most twenty digits, each with a byte after it.
abbrev pub longest_text : ℕ
longest_text = 516096
