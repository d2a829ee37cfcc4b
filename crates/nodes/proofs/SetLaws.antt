-- Members of two sets and of one without the other, by the cases 0 and 1; and of a set whose first node is known. Assumes nothing.
use Prim.Native.Nat.{ℕ, ◌+◌, ◌*◌, ◌≤◌, ◌<◌}
use native.Mathlib.Omega.{arith}
use mathlib.Core.Path.{◌≡◌, refl, ◌∙◌}
use Rattle.sums.proofs.Cases.{by_eq}
use Rattle.nodes.specs.Sets.{member, Both, Minus, First}
use Rattle.nodes.proofs.Members.{member_lt}

module _ {s t r : ℕ} (b : Both s t r) (j : ℕ) where
  pub both_in : member j s ≡ 1 → member j t ≡ 1 → member j r ≡ 1
  both_in p q = let e : member j r ≡ 1 * 1 = b.members j ∙ rw (p, q) refl in omega arith

  pub both_left : member j r ≡ 1 → member j s ≡ 1
  both_left e =
      by_eq (member j s) 0
      (λ z. let f : member j r ≡ 0 * member j t = b.members j ∙ rw z refl in absurd (omega arith))
      (λ z. omega (arith, member_lt j s))

  pub both_right : member j r ≡ 1 → member j t ≡ 1
  both_right e =
      by_eq (member j t) 0
      (λ z. let f : member j r ≡ member j s * 0 = b.members j ∙ rw z refl in absurd (omega arith))
      (λ z. omega (arith, member_lt j t))

module _ {s t r : ℕ} (m : Minus s t r) (j : ℕ) where
  pub minus_in : member j s ≡ 1 → member j t ≡ 0 → member j r ≡ 1
  minus_in p q = let e : member j r + 1 * 0 ≡ 1 = rw (p, q) at (m.members j) in omega arith

  pub minus_left : member j r ≡ 1 → member j s ≡ 1
  minus_left e = omega (arith, m.members j, member_lt j s)

  pub minus_right : member j r ≡ 1 → member j t ≡ 0
  minus_right e =
      by_eq (member j t) 0
      (λ z. z)
      (λ z.
      let one : member j t ≡ 1 = omega (arith, member_lt j t) in
      let f : 1 + 1 * 1 ≡ 1 = rw (e, minus_left e, one) at (m.members j) in
      absurd (omega arith))

  -- what is not in it was not in s, or is in t
  pub minus_out : member j s ≡ 0 → member j r ≡ 0
  minus_out z = omega (arith, m.members j)

  pub minus_gone : member j t ≡ 1 → member j r ≡ 0
  minus_gone o = by_eq (member j r) 0 (λ z. z) (λ z. absurd (omega (arith, minus_right (omega (arith, member_lt j r)))))

  pub minus_case : member j r ≡ 0 → (member j t ≡ 1 → ⊥) → member j s ≡ 0
  minus_case z off = by_eq (member j s) 0 (λ q. q) (λ q.
      let o : member j s ≡ 1 = omega (arith, member_lt j s) in
      let u : member j t ≡ 0 = by_eq (member j t) 0 (λ w. w) (λ w. absurd (off (omega (arith, member_lt j t)))) in
      absurd (omega (arith, minus_in o u)))

-- a set whose first node is n or above has none below n
pub first_none : {n s r : ℕ} → First s r → n ≤ r → (j : ℕ) → j < n → member j s ≡ 1 → ⊥
first_none f le j lt e = omega (arith, f.before j (omega arith))
