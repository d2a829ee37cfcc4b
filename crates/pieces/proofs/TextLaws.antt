-- Decimal digits and how many there are; how long a text is, and that a refusal's line fits. The laws assume nothing.
use Prim.Native.Nat.{ℕ, zero, suc, ◌+◌, ◌/◌, ◌%◌, ◌^◌, ◌≤◌, ◌<◌}
use native.Mathlib.Omega.{arith}
use native.Mathlib.Nat.{pow-suc}
use mathlib.Core.Path.{◌≡◌, refl, ap, ◌∙◌}
use mathlib.Core.List.{List, [], ◌∷◌, ◌++◌}
use lib.ListN.{length, length-append}
use borrow.Author.Tests.{lt-ltb, le-ltb}
use Rattle.sums.proofs.Cases.{by_lt}
use Rattle.pieces.specs.Bytes.{bytes}
use Rattle.pieces.specs.Text.{decimal, digits_in, marked, named, refusal_text, line_room}

-- ---- decimal digits
-- more turns than the number change nothing
turns_enough : (m k n : ℕ) → n < m → n < k → digits_in m n ≡ digits_in k n
unfolding digits_in
turns_enough zero k n hm hk = absurd (omega arith)
turns_enough (suc m) zero n hm hk = absurd (omega arith)
turns_enough (suc m) (suc k) n hm hk =
    by_lt n 10
    (λ low. rw (lt-ltb n 10 low, digits_in) refl)
    (λ high. rw (le-ltb n 10 high, digits_in) (ap (λ l. l ++ ((48 + n % 10) ∷ [])) (turns_enough m k (n / 10) (omega arith) (omega arith))))

pub decimal_digit : (n : ℕ) → n < 10 → decimal n ≡ (48 + n) ∷ []
unfolding decimal digits_in
decimal_digit n low = rw (lt-ltb n 10 low, digits_in)

pub decimal_more : (n : ℕ) → 10 ≤ n → decimal n ≡ decimal (n / 10) ++ ((48 + n % 10) ∷ [])
unfolding decimal digits_in
decimal_more n high = rw (le-ltb n 10 high, digits_in) (ap (λ l. l ++ ((48 + n % 10) ∷ [])) (turns_enough n (suc (n / 10)) (n / 10) (omega arith) (omega arith)))

pub one_digit : (n : ℕ) → n < 10 → length (decimal n) ≡ 1
one_digit n low = rw (decimal_digit n low)

pub one_digit_more : (n : ℕ) → 10 ≤ n → length (decimal n) ≡ length (decimal (n / 10)) + 1
one_digit_more n high = rw (decimal_more n high) (length-append (decimal (n / 10)) ((48 + n % 10) ∷ []))

-- two digits at once
pub two_digits : (n : ℕ) → 10 ≤ n → n < 100 → decimal n ≡ ((48 + n / 10) ∷ []) ++ ((48 + n % 10) ∷ [])
two_digits n high low = decimal_more n high ∙ ap (λ l. l ++ ((48 + n % 10) ∷ [])) (decimal_digit (n / 10) (omega arith))

pub two_digits_more : (n : ℕ) → 100 ≤ n → decimal n ≡ (decimal (n / 100) ++ ((48 + n / 10 % 10) ∷ [])) ++ ((48 + n % 10) ∷ [])
two_digits_more n high =
    let tenths : n / 10 / 10 ≡ n / 100 = omega arith in
    decimal_more n (omega arith) ∙ ap (λ l. l ++ ((48 + n % 10) ∷ [])) (decimal_more (n / 10) (omega arith) ∙ ap (λ k. decimal k ++ ((48 + n / 10 % 10) ∷ [])) tenths)

pub two_length : (n : ℕ) → 10 ≤ n → n < 100 → length (decimal n) ≡ 2
two_length n high low = omega (arith, one_digit_more n high, one_digit (n / 10) (omega arith))

pub two_more_length : (n : ℕ) → 100 ≤ n → length (decimal n) ≡ length (decimal (n / 100)) + 2
two_more_length n high =
    let tenths : n / 10 / 10 ≡ n / 100 = omega arith in
    omega (arith, one_digit_more n (omega arith), one_digit_more (n / 10) (omega arith), ap (λ k. length (decimal k)) tenths)

-- a number below 10 ^ (k + 1) has at most k + 1 digits
pub decimal_length : (k n : ℕ) → n < 10 ^ suc k → length (decimal n) ≤ suc k
decimal_length zero n h = omega (arith, one_digit n (omega (arith, pow-suc 10 0)))
decimal_length (suc k) n h =
    by_lt n 10
    (λ low. omega (arith, one_digit n low))
    (λ high. omega (arith, one_digit_more n high, decimal_length k (n / 10) (omega (arith, pow-suc 10 (suc k)))))

-- ---- how long a text is
pub marked_length : (n mark : ℕ) → length (marked n mark) ≡ length (decimal n) + 1
unfolding marked
marked_length n mark = length-append (decimal n) (mark ∷ [])

-- a word and a number of at most k + 1 digits
pub named_length : (word : List ℕ) (k n : ℕ) → n < 10 ^ suc k → length (named word n) ≤ length word + suc k
unfolding named
named_length word k n h = omega (arith, length-append word (decimal n), decimal_length k n h)

-- numbers of 64 bits have at most twenty digits
pub refusal_fits : (number place : ℕ) → number < 18446744073709551616 → place < 18446744073709551616 → length (refusal_text number place) ≤ line_room
unfolding refusal_text
refusal_fits number place hn hp = simp length-append (omega (arith, named_length (bytes "refused ") 19 number (omega arith), named_length (bytes " ") 19 place (omega arith)))
