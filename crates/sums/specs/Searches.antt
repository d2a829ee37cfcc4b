-- Searches over a range, by a test.
use Rattle.std.specs.Prelude.{ℕ, zero, suc, Bool, true, false, ◌||◌, ltb, Option, Some, None}

-- the first of k, .., k + left - 1 at which the test holds, or k + left
unfoldable pub first_from : ℕ → ℕ → (ℕ → Bool) → ℕ
first_from zero k test = k
first_from (suc left) k test = elim (test k) [ true ↦ k | false ↦ first_from left (suc k) test ]

-- the first number below m at which the test holds, or m
unfoldable pub first_below : ℕ → (ℕ → Bool) → ℕ
first_below m test = first_from m 0 test

-- whether the test holds at some number below m
unfoldable pub some_below : ℕ → (ℕ → Bool) → Bool
some_below zero test = false
some_below (suc m) test = some_below m test || test m

-- what a search among m numbers answers, given the first that is found, or m: that number, or none
unfoldable pub found : (m first : ℕ) → Option ℕ
found m first = elim (ltb first m) [ true ↦ Some first | false ↦ None ]
