-- The books of a run's pairs.
use Rattle.std.specs.Prelude.{ℕ, ◌+◌, ◌*◌, Bool, ◌&&◌, not, List, get_or, leb, eqb}
use Rattle.sums.specs.Searches.{first_below}

-- The books of a pair agree when waiting is at most B, posted equals waiting plus sent plus dropped in exact arithmetic, and posted is at most 65,535 × posts.
abbrev pub agree : (limit posts waiting posted sent dropped : ℕ) → Bool
agree limit posts waiting posted sent dropped =
    leb waiting limit && (eqb posted (waiting + sent + dropped) && leb posted (65535 * posts))

-- the books of the pair at cell p
unfoldable pub books_agree : (limit posts : ℕ) (waiting posted sent dropped : List ℕ) (p : ℕ) → Bool
books_agree limit posts waiting posted sent dropped p = agree limit posts (get_or waiting p 0) (get_or posted p 0) (get_or sent p 0) (get_or dropped p 0)

-- A pair's books disagree: the first such cell in row order gives the place. Here that cell, or N×N where there is none.
unfoldable pub first_disagreeing : (n limit posts : ℕ) (waiting posted sent dropped : List ℕ) → ℕ
first_disagreeing n limit posts waiting posted sent dropped = first_below (n * n) (λ p. not (books_agree limit posts waiting posted sent dropped p))
