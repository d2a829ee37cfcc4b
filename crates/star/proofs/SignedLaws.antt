-- A difference of two small numbers as a signed number. The laws assume nothing.
use Prim.Native.Nat.{ℕ, suc, ◌-◌}
use native.Mathlib.Omega.{arith}
use mathlib.Core.Path.{◌≡◌, refl}
use mathlib.Core.Bool.{Bool, true, false, cond}
use lib.Dec.{ltb}
use lib.IntN.{pos, negsuc, sub_ℕ}
use borrow.Author.Tests.{ltb-true, ltb-false}
use Rattle.star.specs.Lines.{negative, excess_of}

-- ---- a difference
-- the excess got from a difference is the difference the other way round, cut off at 0
pub excess_of_sub : (a b : ℕ) → excess_of (sub_ℕ a b) ≡ b - a
excess_of_sub a b = go (ltb a b) refl
  where
    go : (t : Bool) → ltb a b ≡ t → excess_of (cond t (negsuc (b - suc a)) (pos (a - b))) ≡ b - a
    go true e = omega (arith, ltb-true a b e)
    go false e = omega (arith, ltb-false a b e)

-- a difference is negative exactly where the second number is larger
pub negative_sub : (a b : ℕ) → negative (sub_ℕ a b) ≡ ltb a b
negative_sub a b = go (ltb a b) refl
  where
    go : (t : Bool) → ltb a b ≡ t → negative (cond t (negsuc (b - suc a)) (pos (a - b))) ≡ t
    go true e = refl
    go false e = refl
