-- The books of a pair at and one beyond each of their bounds, and the place of the first that disagree: each by computation, so that no definition can be
-- changed together with the code unnoticed. Assumes nothing.
use mathlib.Core.Path.{◌≡◌, refl}
use mathlib.Core.Bool.{true, false}
use mathlib.Core.List.{[], ◌∷◌, map}
use Rattle.sums.specs.Searches.{first_below, first_from}
use Rattle.books.specs.Books.{agree, books_agree, first_disagreeing}

-- ---- the books of a pair: B, posts, waiting, posted, sent, dropped
-- Waiting is at most B: equal to B and one above, for the smallest B, one between, and the largest.
smallest_limit : map (λ x. agree 1 9 x x 0 0) (1 ∷ 2 ∷ []) ≡ true ∷ false ∷ []
smallest_limit = refl

some_limit : map (λ x. agree 6 9 x x 0 0) (6 ∷ 7 ∷ []) ≡ true ∷ false ∷ []
some_limit = refl

largest_limit : map (λ x. agree 65535 9 x x 0 0) (65535 ∷ 65536 ∷ []) ≡ true ∷ false ∷ []
largest_limit = refl

-- Posted equals waiting plus sent plus dropped: one less, equal (case n), and one more.
posted_is_sum : map (λ x. agree 6 2 1 x 8 4) (12 ∷ 13 ∷ 14 ∷ []) ≡ false ∷ true ∷ false ∷ []
posted_is_sum = refl

-- In exact arithmetic: 2^63 and 2^63 make 2^64, which 64 bits would take for 0.
posted_is_exact : agree 6 9 0 0 9223372036854775808 9223372036854775808 ≡ false
posted_is_exact = refl

-- Posted is at most 65,535 × posts: equal and one above, for no post, one post, and 1,000,000.
no_post : map (λ x. agree 6 0 0 x x 0) (0 ∷ 1 ∷ []) ≡ true ∷ false ∷ []
no_post = refl

one_post : map (λ x. agree 6 1 0 x x 0) (65535 ∷ 65536 ∷ []) ≡ true ∷ false ∷ []
one_post = refl

all_posts : map (λ x. agree 6 1000000 0 x 0 x) (65535000000 ∷ 65535000001 ∷ []) ≡ true ∷ false ∷ []
all_posts = refl

-- ---- the place: the first such cell in row order, here with B 6 and one post
-- four pairs whose books agree
all_agree : first_disagreeing 2 6 1 (1 ∷ 0 ∷ 6 ∷ 0 ∷ []) (1 ∷ 3 ∷ 6 ∷ 4 ∷ []) (0 ∷ 3 ∷ 0 ∷ 0 ∷ []) (0 ∷ 0 ∷ 0 ∷ 4 ∷ []) ≡ 4
unfolding first_disagreeing books_agree first_below first_from
all_agree = refl

-- the first of two, where the sum of cell 1 is wrong and cell 2 waits above B
first_of_two : first_disagreeing 2 6 1 (1 ∷ 0 ∷ 7 ∷ 0 ∷ []) (1 ∷ 2 ∷ 7 ∷ 4 ∷ []) (0 ∷ 3 ∷ 0 ∷ 0 ∷ []) (0 ∷ 0 ∷ 0 ∷ 4 ∷ []) ≡ 1
unfolding first_disagreeing books_agree first_below first_from
first_of_two = refl

-- and the other way round: any of the three conditions gives the place
above_limit_first : first_disagreeing 2 6 1 (1 ∷ 7 ∷ 0 ∷ 0 ∷ []) (1 ∷ 7 ∷ 2 ∷ 4 ∷ []) (0 ∷ 0 ∷ 3 ∷ 0 ∷ []) (0 ∷ 0 ∷ 0 ∷ 4 ∷ []) ≡ 1
unfolding first_disagreeing books_agree first_below first_from
above_limit_first = refl

above_posts_last : first_disagreeing 2 6 1 (1 ∷ 0 ∷ 6 ∷ 0 ∷ []) (1 ∷ 3 ∷ 6 ∷ 65536 ∷ []) (0 ∷ 3 ∷ 0 ∷ 0 ∷ []) (0 ∷ 0 ∷ 0 ∷ 65536 ∷ []) ≡ 3
unfolding first_disagreeing books_agree first_below first_from
above_posts_last = refl

-- A longer table than needed is accepted; its extra cells are not read.
not_read : first_disagreeing 1 6 1 (1 ∷ 7 ∷ []) (1 ∷ 2 ∷ []) (0 ∷ 3 ∷ []) (0 ∷ 0 ∷ []) ≡ 1
unfolding first_disagreeing books_agree first_below first_from
not_read = refl
