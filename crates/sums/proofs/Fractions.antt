-- A number times p/q rounded down: bounds, and the sum of such numbers. By division's own law, x/q ≤ y where x ≤ q × y. Assumes nothing.
use Prim.Native.Nat.{ℕ, zero, suc, ◌*◌, ◌/◌, ◌≤◌, ◌<◌}
use native.Mathlib.Omega.{arith}
use native.Mathlib.Nat.{mul-le-mul_left, mul-le-mul_right, le_of_mul-le-mul_right, div-le_of_le-mul, div-mul-le_self, add-mul}
use mathlib.Core.Path.{◌≡◌}
use Rattle.sums.specs.Sums.{sum_to}

-- v×p/q is at most c where v is at most a, and p/q at most c/a
pub floor_most : (v a p q c : ℕ) → v ≤ a → p * a ≤ c * q → v * p / q ≤ c
floor_most v a p q c h k = div-le_of_le-mul q (omega (arith, mul-le-mul_right p h))

-- a fraction of at most 1 does not enlarge
pub floor_less : (v p q : ℕ) → p ≤ q → v * p / q ≤ v
floor_less v p q h = div-le_of_le-mul q (omega (arith, mul-le-mul_left v h))

pub floor_none : (p q : ℕ) → 0 * p / q ≡ 0
floor_none p q = let h : 0 * p / q ≤ 0 = div-le_of_le-mul q (omega arith) in omega arith

floor_sum : (n p q : ℕ) (g : ℕ → ℕ) → sum_to n (λ t. g t * p / q) * q ≤ sum_to n g * p
unfolding sum_to
floor_sum zero p q g = omega arith
floor_sum (suc n) p q g =
    omega (
      arith,
      floor_sum n p q g,
      div-mul-le_self (g n * p) q,
      add-mul (sum_to n (λ t. g t * p / q)) (g n * p / q) q,
      add-mul (sum_to n g) (g n) p,
    )

-- numbers whose sum is q, each times p/q rounded down, sum to at most p
pub floors_most : (n p q : ℕ) (g : ℕ → ℕ) → 0 < q → sum_to n g ≡ q → sum_to n (λ t. g t * p / q) ≤ p
floors_most n p q g h e =
    let whole : sum_to n (λ t. g t * p / q) * q ≤ q * p = rw e at (floor_sum n p q g) in
    le_of_mul-le-mul_right {k = q} (omega arith) h

-- p/a is at most q/b, and q/b at most r/c: so is p/a at most r/c
pub fraction_trans : (p a q b r c : ℕ) → 0 < b → p * b ≤ q * a → q * c ≤ r * b → p * c ≤ r * a
fraction_trans p a q b r c h k l = le_of_mul-le-mul_right {k = b} (omega (arith, mul-le-mul_right c k, mul-le-mul_right a l)) h
