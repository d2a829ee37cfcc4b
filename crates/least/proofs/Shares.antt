-- What the cells of a line too long keep: each at most what it has, together exactly the line's capacity. The paper proof, with c the capacity,
-- s the sum: shares times s and remainders sum to s * c, so the remainders sum to missing * s; each is below s, so at least `missing` cells
-- have one above 0, and those come before every cell without; so a cell that gains a slot had a remainder, and as exactly `missing` cells have
-- a rank below `missing`, the line sums to c. Assumes nothing.
use Prim.Native.Nat.{ℕ, ◌+◌, ◌-◌, ◌*◌, ◌/◌, ◌%◌, ◌≤◌, ◌<◌}
use native.Mathlib.Omega.{arith}
use native.Mathlib.Nat.{mod-lt, div-add-mod', mul-le-mul_left, le_of_mul-le-mul_left, le_trans, div-le_self, mul-le-mul}
use mathlib.Core.Path.{◌≡◌, refl, sym, ◌∙◌, ap}
use mathlib.Core.List.{List}
use lib.ListN.{get_or}
use lib.Dec.{ltb}
use borrow.Author.Tests.{lt-ltb, le-ltb, ltb-true}
use Rattle.sums.specs.Sums.{sum_to, bit}
use Rattle.sums.proofs.Sums.{sum_ext, sum_add, sum_mono, sum_scale, sum_one, sum_most}
use Rattle.sums.proofs.Gates.{bit_most}
use Rattle.sums.proofs.Cases.{by_eq, by_lt, by_test}
use Rattle.star.specs.Lines.{on_line, line_sum}
use Rattle.star.proofs.LineLaws.{on_line_most}
use Rattle.least.specs.Least.{share, remainder, missing, before, rank, shared}
use Rattle.least.specs.Promises.{Line, claim, outranking, Divided}
use Rattle.least.proofs.Ranks.{larger_before, smaller_after, lower_before, higher_after, ranks_below, rank_same}

module _ (n : ℕ) (cap e : List ℕ) (ℓ : ℕ) (long : get_or cap ℓ 0 < line_sum n e ℓ) where
  -- ---- shares and remainders
  share_times : (t : ℕ) → line_sum n e ℓ * share n cap e ℓ t + remainder n cap e ℓ t ≡ get_or cap ℓ 0 * on_line n e ℓ t
  unfolding share remainder
  share_times t = omega (arith, div-add-mod' (on_line n e ℓ t * get_or cap ℓ 0) (line_sum n e ℓ))

  remainder_lt : (t : ℕ) → remainder n cap e ℓ t < line_sum n e ℓ
  unfolding remainder
  remainder_lt t = mod-lt (on_line n e ℓ t * get_or cap ℓ 0) (omega arith)

  all_times : line_sum n e ℓ * sum_to n (share n cap e ℓ) + sum_to n (remainder n cap e ℓ) ≡ line_sum n e ℓ * get_or cap ℓ 0
  unfolding line_sum
  all_times = omega (
    arith,
    sum_scale n (line_sum n e ℓ) (share n cap e ℓ),
    sum_add n (λ t. line_sum n e ℓ * share n cap e ℓ t) (remainder n cap e ℓ),
    sum_ext n (λ t. line_sum n e ℓ * share n cap e ℓ t + remainder n cap e ℓ t) (λ t. get_or cap ℓ 0 * on_line n e ℓ t) (λ t h. share_times t),
    sum_scale n (get_or cap ℓ 0) (on_line n e ℓ),
  )

  -- the shares leave what is missing
  pub shares_and_missing : sum_to n (share n cap e ℓ) + missing n cap e ℓ ≡ get_or cap ℓ 0
  unfolding missing
  shares_and_missing =
      let most : sum_to n (share n cap e ℓ) ≤ get_or cap ℓ 0 = le_of_mul-le-mul_left {k = line_sum n e ℓ} (omega (arith, all_times)) (omega arith) in
      omega arith

  remainders_sum : sum_to n (remainder n cap e ℓ) ≡ line_sum n e ℓ * missing n cap e ℓ
  remainders_sum =
      let split : line_sum n e ℓ * get_or cap ℓ 0 ≡ line_sum n e ℓ * (sum_to n (share n cap e ℓ) + missing n cap e ℓ) = ap (λ x. line_sum n e ℓ * x) (sym shares_and_missing) in
      omega (arith, all_times)

  -- ---- which cells gain a slot
  -- at least as many cells have a remainder above 0 as slots are missing
  many : missing n cap e ℓ ≤ sum_to n (λ t. bit (ltb 0 (remainder n cap e ℓ t)))
  many = le_of_mul-le-mul_left {k = line_sum n e ℓ}
      (omega (
        arith,
        remainders_sum,
        sum_scale n (line_sum n e ℓ) (λ t. bit (ltb 0 (remainder n cap e ℓ t))),
        sum_mono n (remainder n cap e ℓ) (λ t. line_sum n e ℓ * bit (ltb 0 (remainder n cap e ℓ t))) (λ t h.
            by_lt 0 (remainder n cap e ℓ t)
            (λ p. rw (lt-ltb 0 (remainder n cap e ℓ t) p) (omega (arith, remainder_lt t)))
            (λ p. omega arith)),
      ))
      (omega arith)

  pub missing_most : missing n cap e ℓ ≤ n
  missing_most = omega (arith, many, sum_one n (λ t. bit (ltb 0 (remainder n cap e ℓ t))) (λ t h. bit_most (ltb 0 (remainder n cap e ℓ t))))

  -- a cell that gains had a remainder
  pub gain_has_remainder : (t : ℕ) → rank n (remainder n cap e ℓ) t < missing n cap e ℓ → 0 < remainder n cap e ℓ t
  unfolding rank
  gain_has_remainder t gains =
      by_eq (remainder n cap e ℓ t) 0
      (λ none. absurd (omega (
        arith,
        many,
        sum_mono n (λ u. bit (ltb 0 (remainder n cap e ℓ u))) (λ u. bit (before (remainder n cap e ℓ) u t)) (λ u h.
            by_test (ltb 0 (remainder n cap e ℓ u))
            (λ b.
            let more : 0 < remainder n cap e ℓ u = ltb-true 0 (remainder n cap e ℓ u) b in
            rw (b, larger_before (remainder n cap e ℓ) u t (omega arith)) (omega arith))
            (λ b. rw b (omega arith))),
      )))
      (λ some. omega arith)

  -- ---- what is kept
  pub shared_below : (t : ℕ) → shared n cap e ℓ t ≤ on_line n e ℓ t
  unfolding shared
  shared_below t =
      let below : get_or cap ℓ 0 * on_line n e ℓ t ≤ line_sum n e ℓ * on_line n e ℓ t = omega (arith, mul-le-mul_left {m = get_or cap ℓ 0} {n = line_sum n e ℓ} (on_line n e ℓ t) (omega arith)) in
      by_lt (rank n (remainder n cap e ℓ) t) (missing n cap e ℓ)
      (λ gains.
      rw (lt-ltb _ _ gains)
      (by_lt (share n cap e ℓ t) (on_line n e ℓ t)
      (λ h. omega arith)
      (λ h. absurd (omega (
        arith,
        share_times t,
        gain_has_remainder t gains,
        mul-le-mul_left (line_sum n e ℓ) h,
      )))))
      (λ stays.
      rw (le-ltb _ _ stays)
      (le_of_mul-le-mul_left {k = line_sum n e ℓ} (omega (arith, share_times t)) (omega arith)))

  pub shared_sums_to_capacity : sum_to n (shared n cap e ℓ) ≡ get_or cap ℓ 0
  unfolding shared
  shared_sums_to_capacity =
      sum_add n (share n cap e ℓ) (λ t. bit (ltb (rank n (remainder n cap e ℓ) t) (missing n cap e ℓ)))
      ∙ ap (λ x. sum_to n (share n cap e ℓ) + x) (ranks_below (remainder n cap e ℓ) n (missing n cap e ℓ) missing_most)
      ∙ shares_and_missing

-- ---- tables that agree on a line
module _ (n : ℕ) (cap e k : List ℕ) (ℓ : ℕ) (same : (t : ℕ) → t < n → on_line n e ℓ t ≡ on_line n k ℓ t) where
  pub sum_same : line_sum n e ℓ ≡ line_sum n k ℓ
  unfolding line_sum
  sum_same = sum_ext n _ _ same

  share_same : (t : ℕ) → t < n → share n cap e ℓ t ≡ share n cap k ℓ t
  unfolding share
  share_same t h = rw (same t h, sum_same) refl

  remainder_same : (t : ℕ) → t < n → remainder n cap e ℓ t ≡ remainder n cap k ℓ t
  unfolding remainder
  remainder_same t h = rw (same t h, sum_same) refl

  missing_same : missing n cap e ℓ ≡ missing n cap k ℓ
  unfolding missing
  missing_same = ap (λ x. get_or cap ℓ 0 - x) (sum_ext n _ _ share_same)

  pub shared_same : (t : ℕ) → t < n → shared n cap e ℓ t ≡ shared n cap k ℓ t
  unfolding shared
  shared_same t h = rw (share_same t h, rank_same n _ _ remainder_same t h, missing_same) refl

-- ---- a line divided in tables of its own
pub share_is : (n : ℕ) (cap e : List ℕ) (ℓ t : ℕ) {v s : ℕ} → v ≡ on_line n e ℓ t → s ≡ line_sum n e ℓ → v * get_or cap ℓ 0 / s ≡ share n cap e ℓ t
unfolding share
share_is n cap e ℓ t p q = rw (p, q) refl

pub remainder_is : (n : ℕ) (cap e : List ℕ) (ℓ t : ℕ) {v s : ℕ} → v ≡ on_line n e ℓ t → s ≡ line_sum n e ℓ → v * get_or cap ℓ 0 % s ≡ remainder n cap e ℓ t
unfolding remainder
remainder_is n cap e ℓ t p q = rw (p, q) refl

-- v×L is at most 65,535 × 1,024, so that 64 shares together fit 32 bits
module _ {n : ℕ} {cap e : List ℕ} {ℓ : ℕ} (on : Line n cap e ℓ) where
  pub part_most : (t : ℕ) → t < n → on_line n e ℓ t * get_or cap ℓ 0 ≤ 67107840
  part_most t h = mul-le-mul (on_line_most n e ℓ t on.demands on.line h) (on.capacities.most ℓ on.line)

  pub share_most : (t : ℕ) → t < n → share n cap e ℓ t ≤ 67107840
  unfolding share
  share_most t h = le_trans (div-le_self (on_line n e ℓ t * get_or cap ℓ 0) (line_sum n e ℓ)) (part_most t h)

  pub shares_most : (m : ℕ) → m ≤ n → sum_to m (share n cap e ℓ) ≤ m * 67107840
  shares_most m h = sum_most m 67107840 (share n cap e ℓ) (λ t p. share_most t (omega arith))

-- a remainder is below the sum of its line, which is below 64 × 65,536
pub remainder_fits : (v s : ℕ) → 0 < s → s ≤ 4194240 → v % s < 4194240
remainder_fits v s some most = omega (arith, mod-lt v some)

-- of two cells the one with the larger claim comes before the other
larger_is_before : (r : ℕ → ℕ) (u t : ℕ) → u < 64 → t < 64 → ltb (claim (r t) t) (claim (r u) u) ≡ before r u t
unfolding claim
larger_is_before r u t hu ht =
    by_eq (r u) (r t)
    (λ e. by_lt u t
    (λ h. lt-ltb (claim (r t) t) (claim (r u) u) (omega arith) ∙ sym (lower_before r u t e h))
    (λ h. le-ltb (claim (r t) t) (claim (r u) u) (omega arith) ∙ sym (higher_after r u t e h)))
    (λ ne. by_lt (r t) (r u)
    (λ h. lt-ltb (claim (r t) t) (claim (r u) u) (omega arith) ∙ sym (larger_before r u t h))
    (λ h. le-ltb (claim (r t) t) (claim (r u) u) (omega arith) ∙ sym (smaller_after r u t (omega arith))))

pub outranking_claims : (n : ℕ) (r : ℕ → ℕ) (claims : List ℕ) → n ≤ 64 → ((u : ℕ) → u < n → get_or claims u 0 ≡ claim (r u) u) → (t : ℕ) → t < n → outranking n claims t ≡ rank n r t
unfolding outranking rank
outranking_claims n r claims few is t h = sum_ext n _ _ (λ u p. rw (is t h, is u p) (ap bit (larger_is_before r u t (omega arith) (omega arith))))

pub divided_shares : (n : ℕ) (cap e : List ℕ) (ℓ : ℕ) (shares claims : List ℕ) (rest : ℕ) → n ≤ 64 → Divided n cap e ℓ shares claims rest → (t : ℕ) → t < n → get_or shares t 0 + bit (ltb (outranking n claims t) rest) ≡ shared n cap e ℓ t
unfolding shared
divided_shares n cap e ℓ shares claims rest few c t h = rw (c.each t h, outranking_claims n (remainder n cap e ℓ) claims few c.claimed t h, c.lacks) refl
