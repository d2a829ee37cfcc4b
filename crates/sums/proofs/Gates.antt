-- A number behind a test, and sums of such numbers: each law by the two cases of the test. They assume nothing.
use Prim.Native.Nat.{ℕ, ◌+◌, ◌≤◌}
use native.Mathlib.Omega.{arith}
use mathlib.Core.Path.{◌≡◌, refl, sym}
use mathlib.Core.Bool.{Bool, true, false, not}
use Rattle.sums.specs.Sums.{sum_to, bit, gate}
use Rattle.sums.proofs.Sums.{sum_zero}

pub sum_gate : (n : ℕ) (b : Bool) (f : ℕ → ℕ) → sum_to n (λ i. gate b (f i)) ≡ gate b (sum_to n f)
sum_gate n true f = refl
sum_gate n false f = sum_zero n

-- a number falls into what the test takes and what it leaves
pub gate_split : (b : Bool) (x : ℕ) → x ≡ gate b x + gate (not b) x
gate_split true x = omega arith
gate_split false x = omega arith

pub gate_mono : (b : Bool) (x y : ℕ) → x ≤ y → gate b x ≤ gate b y
gate_mono true x y h = h
gate_mono false x y h = omega arith

pub gate_le : (b : Bool) (x : ℕ) → gate b x ≤ x
gate_le true x = omega arith
gate_le false x = omega arith

pub gate_cong : (b : Bool) (x y : ℕ) → (b ≡ true → x ≡ y) → gate b x ≡ gate b y
gate_cong true x y h = h refl
gate_cong false x y h = refl

pub gate_drop : (b : Bool) (x : ℕ) → (b ≡ false → x ≡ 0) → gate b x ≡ x
gate_drop true x h = refl
gate_drop false x h = sym (h refl)

pub gate_zero : (b : Bool) (x : ℕ) → (b ≡ true → x ≡ 0) → gate b x ≡ 0
gate_zero true x h = h refl
gate_zero false x h = refl

-- ---- a test as a number
pub bit_most : (b : Bool) → bit b ≤ 1
bit_most true = omega arith
bit_most false = omega arith

pub bit_one : (b : Bool) → bit b ≡ 1 → b ≡ true
bit_one true e = refl
bit_one false e = absurd (omega arith)
