-- How many of the nodes below n a set has: what the operations do to it, by sums of members. The laws assume nothing.
use mathlib.Core.Path.{◌≡◌}
use Prim.Native.Nat.{ℕ, ◌+◌, ◌≤◌, ◌<◌}
use native.Mathlib.Omega.{arith}
use Rattle.sums.proofs.Sums.{sum_ext, sum_add, sum_update}
use Rattle.nodes.specs.Sets.{member, size, With, Without, Both, Minus}

pub size_with : (n s r i : ℕ) → i < n → With s i r → size n r ≤ size n s + 1
unfolding size
size_with n s r i hi w = omega (arith, w.here, sum_update n (λ k. member k s) (λ k. member k r) i hi (λ k hk ne. w.other k ne))

pub size_without : (n s r i : ℕ) → i < n → member i s ≡ 1 → Without s i r → size n r + 1 ≡ size n s
unfolding size
size_without n s r i hi e w = omega (arith, w.here, sum_update n (λ k. member k s) (λ k. member k r) i hi (λ k hk ne. w.other k ne))

-- a set falls into what another has of it and what is left
pub size_parted : (n s t both left : ℕ) → Both s t both → Minus s t left → size n left + size n both ≡ size n s
unfolding size
size_parted n s t both left b m =
    omega (
      arith,
      sum_add n (λ i. member i left) (λ i. member i both),
      sum_ext n (λ i. member i left + member i both) (λ i. member i s) (λ i hi. omega (arith, b.members i, m.members i)),
    )
