-- A set of nodes as a number: node i is in it where binary digit i is 1.
use Rattle.std.specs.Prelude.{ℕ, zero, suc, ◌+◌, ◌*◌, ◌/◌, ◌%◌, ◌<◌, ◌≤◌, ◌≡◌, Bool, true, false}
use Rattle.sums.specs.Sums.{sum_to}

-- 1 where node i is in s, and 0 elsewhere
unfoldable pub member : (i s : ℕ) → ℕ
member zero s = s % 2
member (suc i) s = member i (s / 2)

-- how many of the nodes below n are in s
unfoldable pub size : (n s : ℕ) → ℕ
size n s = sum_to n (λ i. member i s)

-- no node from n on is in s
pub record Within (n s : ℕ) : Type 0 where
  pub beyond : (i : ℕ) → n ≤ i → member i s ≡ 0

pub record None (r : ℕ) : Type 0 where
  pub out : (i : ℕ) → member i r ≡ 0

pub record All (r : ℕ) : Type 0 where
  pub in' : (i : ℕ) → i < 64 → member i r ≡ 1

pub record With (s i r : ℕ) : Type 0 where
  pub here : member i r ≡ 1
  pub other : (j : ℕ) → (j ≡ i → ⊥) → member j r ≡ member j s

pub record WithWhere (s i : ℕ) (test : Bool) (r : ℕ) : Type 0 where
  pub added : test ≡ true → member i r ≡ 1
  pub left : test ≡ false → member i r ≡ member i s
  pub other : (j : ℕ) → (j ≡ i → ⊥) → member j r ≡ member j s

pub record Without (s i r : ℕ) : Type 0 where
  pub here : member i r ≡ 0
  pub other : (j : ℕ) → (j ≡ i → ⊥) → member j r ≡ member j s

pub record Both (s t r : ℕ) : Type 0 where
  pub members : (j : ℕ) → member j r ≡ member j s * member j t

pub record Minus (s t r : ℕ) : Type 0 where
  pub members : (j : ℕ) → member j r + member j s * member j t ≡ member j s

-- the lowest node, or 64
pub record First (s r : ℕ) : Type 0 where
  pub within : r ≤ 64
  pub found : r < 64 → member r s ≡ 1
  pub before : (j : ℕ) → j < r → member j s ≡ 0

-- the nodes of the low half, and those of the high half 32 higher
pub record Joined (low high r : ℕ) : Type 0 where
  pub lower : (i : ℕ) → i < 32 → member i r ≡ member i low
  pub upper : (i : ℕ) → member (i + 32) r ≡ member i high
