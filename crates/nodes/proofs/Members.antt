-- What the operations on binary digits do to the members: each goes digit by digit, by one induction. The laws assume nothing.
use mathlib.Core.Path.{◌≡◌, refl, sym, ap, ◌∙◌}
use mathlib.Core.Logic.{◌⊎◌, ⊎_elim, inl, inr}
use Prim.Native.Nat.{ℕ, zero, suc, ◌+◌, ◌-◌, ◌*◌, ◌/◌, ◌%◌, ◌^◌, ◌<◌, min, max}
use native.Mathlib.Omega.{arith}
use native.Mathlib.Nat.{mod-lt, zero-lt-suc, pow-succ', add-zero, add-suc, mul-one}
use mathlib.Core.Bool.{Bool, true, false, false≢true}
use lib.Arith.{digits_div, digits_mod}
use lib.Bits.{bit_and, bit_or, bit_xor, differ, and_step, or_step, xor_step, shifted_half, shifted_even}
use lib.Pow.{shl_exact, pow_pos}
use lib.Count.{count_trailing_zeros, under, trailing_le}
use mir.Val.{bool_byte}
use Rattle.sums.proofs.Cases.{by_eq}
use Rattle.nodes.specs.Sets.{member, With, WithWhere, Without, First, Joined}

bit_case : (x : ℕ) → x < 2 → (x ≡ 0) ⊎ (x ≡ 1)
bit_case x h = by_eq x 0 (λ e. inl e) (λ ne. inr (omega arith))

bit_all : (P : ℕ → ℕ → Type 0) → P 0 0 → P 0 1 → P 1 0 → P 1 1 → (x y : ℕ) → x < 2 → y < 2 → P x y
bit_all P a b c d x y hx hy =
    ⊎_elim
    (λ (ex : x ≡ 0). ⊎_elim (λ (ey : y ≡ 0). rw (ex, ey) a) (λ (ey : y ≡ 1). rw (ex, ey) b) (bit_case y hy))
    (λ (ex : x ≡ 1). ⊎_elim (λ (ey : y ≡ 0). rw (ex, ey) c) (λ (ey : y ≡ 1). rw (ex, ey) d) (bit_case y hy))
    (bit_case x hx)

bit_min : (x y : ℕ) → x < 2 → y < 2 → min x y ≡ x * y
bit_min = bit_all (λ x y. min x y ≡ x * y) refl refl refl refl

bit_max : (x y : ℕ) → x < 2 → y < 2 → max x y + x * y ≡ x + y
bit_max = bit_all (λ x y. max x y + x * y ≡ x + y) refl refl refl refl

bit_differ : (x y : ℕ) → x < 2 → y < 2 → differ x y + 2 * (x * y) ≡ x + y
bit_differ = bit_all (λ x y. differ x y + 2 * (x * y) ≡ x + y) refl refl refl refl

bit_min_lt : (x y : ℕ) → x < 2 → y < 2 → min x y < 2
bit_min_lt = bit_all (λ x y. min x y < 2) (omega arith) (omega arith) (omega arith) (omega arith)

bit_max_lt : (x y : ℕ) → x < 2 → y < 2 → max x y < 2
bit_max_lt = bit_all (λ x y. max x y < 2) (omega arith) (omega arith) (omega arith) (omega arith)

bit_differ_lt : (x y : ℕ) → x < 2 → y < 2 → differ x y < 2
bit_differ_lt = bit_all (λ x y. differ x y < 2) (omega arith) (omega arith) (omega arith) (omega arith)

low_lt : (s : ℕ) → s % 2 < 2
low_lt s = mod-lt s (zero-lt-suc 1)

pub member_lt : (i s : ℕ) → member i s < 2
unfolding member
member_lt zero s = low_lt s
member_lt (suc i) s = member_lt i (s / 2)

-- an operation by digits, member by member
module _ (op f : ℕ → ℕ → ℕ) (step : (a b : ℕ) → op a b ≡ op (a / 2) (b / 2) * 2 + f (a % 2) (b % 2)) (lt : (x y : ℕ) → x < 2 → y < 2 → f x y < 2) where
  pub by_members : (i s t : ℕ) → member i (op s t) ≡ f (member i s) (member i t)
  unfolding member
  by_members zero s t = ap (λ (x : ℕ). x % 2) (step s t) ∙ digits_mod (op (s / 2) (t / 2)) (lt (s % 2) (t % 2) (low_lt s) (low_lt t))
  by_members (suc i) s t = ap (member i) (ap (λ (x : ℕ). x / 2) (step s t) ∙ digits_div (op (s / 2) (t / 2)) (lt (s % 2) (t % 2) (low_lt s) (low_lt t))) ∙ by_members i (s / 2) (t / 2)

pub and_member : (i s t : ℕ) → member i (bit_and s t) ≡ member i s * member i t
and_member i s t = by_members bit_and min and_step bit_min_lt i s t ∙ bit_min (member i s) (member i t) (member_lt i s) (member_lt i t)

pub or_member : (i s t : ℕ) → member i (bit_or s t) + member i s * member i t ≡ member i s + member i t
or_member i s t = ap (λ (x : ℕ). x + member i s * member i t) (by_members bit_or max or_step bit_max_lt i s t) ∙ bit_max (member i s) (member i t) (member_lt i s) (member_lt i t)

pub xor_member : (i s t : ℕ) → member i (bit_xor s t) + 2 * (member i s * member i t) ≡ member i s + member i t
xor_member i s t = ap (λ (x : ℕ). x + 2 * (member i s * member i t)) (by_members bit_xor differ xor_step bit_differ_lt i s t) ∙ bit_differ (member i s) (member i t) (member_lt i s) (member_lt i t)

-- the set of one node
pub member_none : (i : ℕ) → member i 0 ≡ 0
unfolding member
member_none zero = refl
member_none (suc i) = member_none i

one_here : (i : ℕ) → member i (1 * 2 ^ i) ≡ 1
unfolding member
one_here zero = refl
one_here (suc i) = ap (member i) (shifted_half 1 i) ∙ one_here i

one_else : (i j : ℕ) → (i ≡ j → ⊥) → member i (1 * 2 ^ j) ≡ 0
unfolding member
one_else zero zero ne = absurd (ne refl)
one_else zero (suc j) ne = shifted_even 1 j
one_else (suc i) zero ne = member_none i
one_else (suc i) (suc j) ne = ap (member i) (shifted_half 1 j) ∙ one_else i j (λ e. ne (ap suc e))

-- as a machine of w digits shifts
one_is : (w i : ℕ) → i < w → (1 * 2 ^ i) % 2 ^ w ≡ 1 * 2 ^ i
one_is w i h = shl_exact {a = 1} 1 i w (omega arith) (omega arith)

pub with_law : (w s i : ℕ) → i < w → With s i (bit_or s ((1 * 2 ^ i) % 2 ^ w))
with_law w s i h =
    let on : member i ((1 * 2 ^ i) % 2 ^ w) ≡ 1 = ap (member i) (one_is w i h) ∙ one_here i in
    record {
      here =
          let q : member i (bit_or s ((1 * 2 ^ i) % 2 ^ w)) + member i s * 1 ≡ member i s + 1 = rw on at (or_member i s ((1 * 2 ^ i) % 2 ^ w)) in
          omega arith;
      other = λ j ne.
          let off : member j ((1 * 2 ^ i) % 2 ^ w) ≡ 0 = ap (member j) (one_is w i h) ∙ one_else j i ne in
          let q : member j (bit_or s ((1 * 2 ^ i) % 2 ^ w)) + member j s * 0 ≡ member j s + 0 = rw off at (or_member j s ((1 * 2 ^ i) % 2 ^ w)) in
          omega arith;
    }

-- where the test holds
pub with_where_added : {s i r : ℕ} {test : Bool} → test ≡ true → With s i r → WithWhere s i test r
with_where_added t w = record { added = λ e. w.here; left = λ e. absurd (false≢true (sym e ∙ t)); other = w.other }

-- the or of a bit that is the test
pub with_where_law : (s i : ℕ) (test : Bool) → i < 64 → WithWhere s i test (bit_or s ((bool_byte test * 2 ^ i) % 2 ^ 64))
with_where_law s i true h = with_where_added refl (with_law 64 s i h)
with_where_law s i false h =
    let none : (0 * 2 ^ i) % 2 ^ 64 ≡ 0 = omega arith in
    let same : (j : ℕ) → member j (bit_or s ((0 * 2 ^ i) % 2 ^ 64)) ≡ member j s =
    λ j.
    let off : member j ((0 * 2 ^ i) % 2 ^ 64) ≡ 0 = ap (member j) none ∙ member_none j in
    let q : member j (bit_or s ((0 * 2 ^ i) % 2 ^ 64)) + member j s * 0 ≡ member j s + 0 = rw off at (or_member j s ((0 * 2 ^ i) % 2 ^ 64)) in
    omega arith in
    record { added = λ e. absurd (false≢true e); left = λ e. same i; other = λ j ne. same j }

pub minus_law : (s t j : ℕ) → member j (bit_xor s (bit_and s t)) + member j s * member j t ≡ member j s
minus_law s t j =
    let x : member j (bit_xor s (bit_and s t)) + 2 * (member j s * member j (bit_and s t)) ≡ member j s + member j (bit_and s t) = xor_member j s (bit_and s t) in
    let a : member j (bit_and s t) ≡ member j s * member j t = and_member j s t in
    let sq : member j s * member j (bit_and s t) ≡ member j (bit_and s t) =
    ⊎_elim (λ (e : member j s ≡ 0). rw (a, e) (omega arith)) (λ (e : member j s ≡ 1). rw (a, e) (omega arith)) (bit_case (member j s) (member_lt j s)) in
    omega (arith, x, a, sq)

pub without_law : (s i : ℕ) → i < 64 → Without s i (bit_xor s (bit_and s ((1 * 2 ^ i) % 2 ^ 64)))
without_law s i h =
    let on : member i ((1 * 2 ^ i) % 2 ^ 64) ≡ 1 = ap (member i) (one_is 64 i h) ∙ one_here i in
    record {
      here = omega (arith, rw on at (minus_law s ((1 * 2 ^ i) % 2 ^ 64) i));
      other = λ j ne.
          let off : member j ((1 * 2 ^ i) % 2 ^ 64) ≡ 0 = ap (member j) (one_is 64 i h) ∙ one_else j i ne in
          omega (arith, rw off at (minus_law s ((1 * 2 ^ i) % 2 ^ 64) j));
    }

module _ (k s : ℕ) where
  zeros_even : s % 2 ≡ 0 → count_trailing_zeros (suc k) s ≡ suc (count_trailing_zeros k (s / 2))
  unfolding count_trailing_zeros
  zeros_even e = ap (λ (d : ℕ). under d (count_trailing_zeros k (s / 2))) e

  zeros_odd : s % 2 ≡ 1 → count_trailing_zeros (suc k) s ≡ 0
  unfolding count_trailing_zeros
  zeros_odd e = ap (λ (d : ℕ). under d (count_trailing_zeros k (s / 2))) e

zeros_found : (k s : ℕ) → count_trailing_zeros k s < k → member (count_trailing_zeros k s) s ≡ 1
unfolding member
zeros_found zero s lt = absurd (omega arith)
zeros_found (suc k) s lt =
    ⊎_elim
    (λ e. ap (λ (x : ℕ). member x s) (zeros_even k s e) ∙ zeros_found k (s / 2) (omega (arith, zeros_even k s e)))
    (λ e. ap (λ (x : ℕ). member x s) (zeros_odd k s e) ∙ e)
    (bit_case (s % 2) (low_lt s))

zeros_before : (k s j : ℕ) → j < count_trailing_zeros k s → member j s ≡ 0
unfolding member
zeros_before zero s j lt = absurd (omega (arith, trailing_le 0 s))
zeros_before (suc k) s zero lt =
    ⊎_elim (λ e. e) (λ e. absurd (omega (arith, zeros_odd k s e))) (bit_case (s % 2) (low_lt s))
zeros_before (suc k) s (suc j) lt =
    ⊎_elim (λ e. zeros_before k (s / 2) j (omega (arith, zeros_even k s e))) (λ e. absurd (omega (arith, zeros_odd k s e))) (bit_case (s % 2) (low_lt s))

pub first_law : (s : ℕ) → First s (count_trailing_zeros 64 s)
first_law s = record { within = trailing_le 64 s; found = zeros_found 64 s; before = zeros_before 64 s }

-- the set of all nodes
pub member_all : (k i : ℕ) → i < k → member i (2 ^ k - 1) ≡ 1
unfolding member
member_all zero i lt = absurd (omega arith)
member_all (suc k) zero lt =
    let p : 2 ^ suc k ≡ 2 * 2 ^ k = pow-succ' 2 k in
    let q : 0 < 2 ^ k = pow_pos k in
    omega arith
member_all (suc k) (suc i) lt =
    let p : 2 ^ suc k ≡ 2 * 2 ^ k = pow-succ' 2 k in
    let q : 0 < 2 ^ k = pow_pos k in
    let e : (2 ^ suc k - 1) / 2 ≡ 2 ^ k - 1 = omega arith in
    ap (member i) e ∙ member_all k i (omega arith)

-- two halves: the high one is shifted past the nodes of the low one
shifted_below : (k i s : ℕ) → i < k → member i (s * 2 ^ k) ≡ 0
unfolding member
shifted_below zero i s lt = absurd (omega arith)
shifted_below (suc k) zero s lt = shifted_even s k
shifted_below (suc k) (suc i) s lt = ap (member i) (shifted_half s k) ∙ shifted_below k i s (omega arith)

shifted_above : (k i s : ℕ) → member (i + k) (s * 2 ^ k) ≡ member i s
unfolding member
shifted_above zero i s = rw (add-zero i, mul-one s) refl
shifted_above (suc k) i s = rw (add-suc i k) (ap (member (i + k)) (shifted_half s k) ∙ shifted_above k i s)

small_above : (k i s : ℕ) → s < 2 ^ k → member (i + k) s ≡ 0
unfolding member
small_above zero i s lt =
    let e : s ≡ 0 = omega arith in
    rw (add-zero i) (ap (member i) e ∙ member_none i)
small_above (suc k) i s lt =
    let p : 2 ^ suc k ≡ 2 * 2 ^ k = pow-succ' 2 k in
    rw (add-suc i k) (small_above k i (s / 2) (omega arith))

pub joined_law : (low high : ℕ) → low < 2 ^ 32 → high < 2 ^ 32 → Joined low high (bit_or low ((high * 2 ^ 32) % 2 ^ 64))
joined_law low high hl hh =
    let e : (high * 2 ^ 32) % 2 ^ 64 ≡ high * 2 ^ 32 = shl_exact 32 32 64 hh (omega arith) in
    rw e (record {
      lower = λ i lt.
          let off : member i (high * 2 ^ 32) ≡ 0 = shifted_below 32 i high lt in
          let q : member i (bit_or low (high * 2 ^ 32)) + member i low * 0 ≡ member i low + 0 = rw off at (or_member i low (high * 2 ^ 32)) in
          omega arith;
      upper = λ i.
          let off : member (i + 32) low ≡ 0 = small_above 32 i low hl in
          let q : member (i + 32) (bit_or low (high * 2 ^ 32)) + 0 * member (i + 32) (high * 2 ^ 32) ≡ 0 + member (i + 32) (high * 2 ^ 32) = rw off at (or_member (i + 32) low (high * 2 ^ 32)) in
          omega (arith, q, shifted_above 32 i high);
    })
