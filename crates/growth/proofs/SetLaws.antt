-- Sets that are filled node by node; lists of sets of which one changes at one node; what is left of a set whose first node is taken out. Assumes nothing.
use Prim.Native.Nat.{ℕ, min, ◌≤◌, ◌<◌}
use native.Mathlib.Omega.{arith}
use mathlib.Core.Path.{◌≡◌, ◌∙◌, ap}
use mathlib.Core.List.{List}
use lib.ListN.{length, get_or, set}
use lib.Seq.{get_or-set_same, get_or-set_other}
use Rattle.sums.proofs.Cases.{by_eq}
use Rattle.nodes.specs.Sets.{member, size, Without, First}
use Rattle.nodes.proofs.Sizes.{size_without}

-- ---- a set that is filled from 0 up
pub record Scan (f : ℕ → ℕ) (s k : ℕ) : Type 0 where
  pub done : (m : ℕ) → m < k → member m s ≡ min 1 (f m)
  pub rest : (m : ℕ) → k ≤ m → member m s ≡ 0

-- ---- a list of sets of which the one at p changes at node q alone
module _ (l : List ℕ) (p q w : ℕ) (fits : p < length l) where
  pub set_member_here : member q (get_or (set l p w) p 0) ≡ member q w
  set_member_here = ap (member q) (get_or-set_same l p w 0 fits)

  pub set_member_off : ((m : ℕ) → (m ≡ q → ⊥) → member m w ≡ member m (get_or l p 0)) → (k m : ℕ) → (k ≡ p → m ≡ q → ⊥) → member m (get_or (set l p w) k 0) ≡ member m (get_or l k 0)
  set_member_off off k m ne =
      by_eq k p
      (λ e. rw e (ap (member m) (get_or-set_same l p w 0 fits) ∙ off m (ne e)))
      (λ no. ap (member m) (get_or-set_other l p k w 0 no))

-- ---- a set without its first node is smaller
pub left_falls : {left i : ℕ} (n left' : ℕ) → First left i → n ≤ 64 → i < n → Without left i left' → size n left' < size n left
left_falls {left} {i} n left' f few lt u = omega (arith, size_without n left left' i lt (f.found (omega arith)) u)
