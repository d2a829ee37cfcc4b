-- The first number at which a test holds: what is found, what was passed, and what is so where nothing is found; a test that holds at some number, or at
-- each. The laws assume nothing.
use Prim.Native.Nat.{ℕ, zero, suc, ◌+◌, ◌≤◌, ◌<◌, zero-le}
use native.Mathlib.Omega.{arith}
use native.Mathlib.Nat.{zero-add}
use mathlib.Core.Path.{◌≡◌, refl, sym, ◌∙◌, ap}
use mathlib.Core.Bool.{Bool, true, false, ◌||◌, ◌&&◌}
use borrow.Author.Tests.{lt-ltb, le-ltb}
use Rattle.std.specs.Prelude.{Some, None}
use Rattle.sums.specs.Searches.{first_from, first_below, some_below, found}
use Rattle.sums.proofs.Cases.{by_eq}

module _ (test : ℕ → Bool) where
  from_at : (left k at : ℕ) → k ≤ at → at < k + left → ((q : ℕ) → k ≤ q → q < at → test q ≡ false) → test at ≡ true → first_from left k test ≡ at
  unfolding first_from
  from_at zero k at low high before here = omega arith
  from_at (suc left) k at low high before here =
      by_eq k at
      (λ e. rw (ap test e ∙ here, first_from) e)
      (λ ne. rw (before k (omega arith) (omega arith), first_from) (from_at left (suc k) at (omega arith) (omega arith) (λ q p r. before q (omega arith) r) here))

  from_none : (left k : ℕ) → ((q : ℕ) → k ≤ q → q < k + left → test q ≡ false) → first_from left k test ≡ k + left
  unfolding first_from
  from_none zero k none = omega arith
  from_none (suc left) k none =
      rw (none k (omega arith) (omega arith), first_from) (from_none left (suc k) (λ q p r. none q (omega arith) (omega arith)) ∙ omega arith)

  -- the first number at which the test holds is found
  pub first_at : (m at : ℕ) → at < m → ((q : ℕ) → q < at → test q ≡ false) → test at ≡ true → first_below m test ≡ at
  unfolding first_below
  first_at m at lt before here = from_at m 0 at zero-le (omega arith) (λ q p r. before q r) here

  -- nothing is found
  pub first_none : (m : ℕ) → ((q : ℕ) → q < m → test q ≡ false) → first_below m test ≡ m
  unfolding first_below
  first_none m none = from_none m 0 (λ q p r. none q (omega arith)) ∙ zero-add m

  from_before : (left k q : ℕ) → k ≤ q → q < first_from left k test → test q ≡ false
  unfolding first_from
  from_before zero k q low high = absurd (omega arith)
  from_before (suc left) k q low high = go (test k) refl high (from_before left (suc k) q)
    where
      go : (b : Bool) → test k ≡ b → q < elim b [ true ↦ k | false ↦ first_from left (suc k) test ] → (suc k ≤ q → q < first_from left (suc k) test → test q ≡ false) → test q ≡ false
      go true e h rest = absurd (omega arith)
      go false e h rest = by_eq k q (λ s. sym (ap test s) ∙ e) (λ ne. rest (omega arith) h)

  -- at every number passed the test fails
  pub first_before : (m q : ℕ) → q < first_below m test → test q ≡ false
  unfolding first_below
  first_before m q h = from_before m 0 q zero-le h

  from_here : (left k : ℕ) → first_from left k test < k + left → test (first_from left k test) ≡ true
  unfolding first_from
  from_here zero k high = absurd (omega arith)
  from_here (suc left) k high = go (test k) refl high (from_here left (suc k))
    where
      go : (b : Bool) → test k ≡ b → elim b [ true ↦ k | false ↦ first_from left (suc k) test ] < k + suc left → (first_from left (suc k) test < suc k + left → test (first_from left (suc k) test) ≡ true) → test (elim b [ true ↦ k | false ↦ first_from left (suc k) test ]) ≡ true
      go true e h rest = e
      go false e h rest = rest (omega arith)

  -- at the number found it holds
  pub first_here : (m : ℕ) → first_below m test < m → test (first_below m test) ≡ true
  unfolding first_below
  first_here m h = from_here m 0 (omega arith)

  -- no number below m has what the test asks
  pub some_none : (m : ℕ) → ((q : ℕ) → q < m → test q ≡ false) → some_below m test ≡ false
  unfolding some_below
  some_none zero none = refl
  some_none (suc m) none = rw (some_none m (λ q h. none q (omega arith))) (none m (omega arith))

  -- some number below m has it
  pub some_at : (m q : ℕ) → q < m → test q ≡ true → some_below m test ≡ true
  unfolding some_below
  some_at zero q h e = absurd (omega arith)
  some_at (suc m) q h e =
      by_eq q m
      (λ s. or_last (some_below m test) (sym (ap test s) ∙ e))
      (λ ne. rw (some_at m q (omega arith) e))
    where
      or_last : (b : Bool) {x : Bool} → x ≡ true → (b || x) ≡ true
      or_last true e = refl
      or_last false e = e

-- tests that agree below m find the same
from_ext : (f g : ℕ → Bool) (left k : ℕ) → ((q : ℕ) → k ≤ q → q < k + left → f q ≡ g q) → first_from left k f ≡ first_from left k g
unfolding first_from
from_ext f g zero k same = refl
from_ext f g (suc left) k same =
    rw (same k (omega arith) (omega arith), first_from) (ap (λ x. elim (g k) [ true ↦ k | false ↦ x ]) (from_ext f g left (suc k) (λ q p r. same q (omega arith) (omega arith))))

pub first_ext : (m : ℕ) (f g : ℕ → Bool) → ((q : ℕ) → q < m → f q ≡ g q) → first_below m f ≡ first_below m g
unfolding first_below
first_ext m f g same = from_ext f g m 0 (λ q p r. same q (omega arith))

-- the two tests of a test of both
pub both_first : (a b : Bool) → (a && b) ≡ true → a ≡ true
both_first true b e = refl
both_first false b e = e

pub both_second : (a b : Bool) → (a && b) ≡ true → b ≡ true
both_second true b e = e
both_second false b e = cc

-- a test that holds at each number below n holds at this one
-- whether the test holds at each number below m
unfoldable pub all_below : ℕ → (ℕ → Bool) → Bool
all_below zero test = true
all_below (suc m) test = test m && all_below m test

pub all_at : (n : ℕ) (test : ℕ → Bool) → all_below n test ≡ true → (i : ℕ) → i < n → test i ≡ true
unfolding all_below
all_at zero test e i h = absurd (omega arith)
all_at (suc n) test e i h =
    by_eq i n
    (λ s. ap test s ∙ both_first (test n) (all_below n test) e)
    (λ s. all_at n test (both_second (test n) (all_below n test) e) i (omega arith))

-- The answer where a number was found, and where none was.
pub found_some : (m first : ℕ) → first < m → found m first ≡ Some first
unfolding found
found_some m first lt = rw (lt-ltb first m lt, found)

pub found_none : (m first : ℕ) → m ≤ first → found m first ≡ None
unfolding found
found_none m first le = rw (le-ltb first m le, found)
