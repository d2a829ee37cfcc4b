-- Sums over a range, and numbers behind a test.
use Rattle.std.specs.Prelude.{ℕ, zero, suc, ◌+◌, Bool, true, false, eqb}

-- f 0 + .. + f (n - 1)
unfoldable pub sum_to : ℕ → (ℕ → ℕ) → ℕ
sum_to zero f = 0
sum_to (suc n) f = sum_to n f + f n

-- 1 where the test holds, and 0 elsewhere
abbrev pub bit : Bool → ℕ
bit true = 1
bit false = 0

-- x where the test holds, and 0 elsewhere
abbrev pub gate : Bool → ℕ → ℕ
gate true x = x
gate false x = 0

-- 1 where a is b, and 0 elsewhere
unfoldable pub hit : ℕ → ℕ → ℕ
hit a b = bit (eqb a b)
