-- The laws of sums over a range: each by induction on the range and arithmetic. They assume nothing.
use mathlib.Core.Path.{◌≡◌, refl, sym, ap, ◌∙◌}
use mathlib.Core.Logic.{⊎_elim}
use Prim.Native.Nat.{ℕ, zero, suc, ◌+◌, ◌*◌, ◌≤◌, ◌<◌}
use native.Mathlib.Omega.{arith}
use native.Mathlib.Numerals.{add-one}
use native.Mathlib.Nat.{eq-or-lt_of_le, le_of_suc-le-suc}
use borrow.Author.Tests.{eq-eqb, ne_eqb}
use Rattle.sums.specs.Sums.{sum_to, bit, hit}
use Rattle.sums.proofs.Cases.{by_eq, by_lt}

pub sum_ext : (n : ℕ) (f g : ℕ → ℕ) → ((k : ℕ) → k < n → f k ≡ g k) → sum_to n f ≡ sum_to n g
unfolding sum_to
sum_ext zero f g h = refl
sum_ext (suc n) f g h = omega (arith, sum_ext n f g (λ k lt. h k (omega arith)), h n (omega arith))

pub sum_add : (n : ℕ) (f g : ℕ → ℕ) → sum_to n (λ k. f k + g k) ≡ sum_to n f + sum_to n g
unfolding sum_to
sum_add zero f g = refl
sum_add (suc n) f g = omega (arith, sum_add n f g)

pub sum_mono : (n : ℕ) (f g : ℕ → ℕ) → ((k : ℕ) → k < n → f k ≤ g k) → sum_to n f ≤ sum_to n g
unfolding sum_to
sum_mono zero f g h = omega arith
sum_mono (suc n) f g h = omega (arith, sum_mono n f g (λ k lt. h k (omega arith)), h n (omega arith))

pub sum_zero : (n : ℕ) → sum_to n (λ k. 0) ≡ 0
unfolding sum_to
sum_zero zero = refl
sum_zero (suc n) = omega (arith, sum_zero n)

-- two sums can be exchanged
pub sum_swap : (n m : ℕ) (f : ℕ → ℕ → ℕ) → sum_to n (λ i. sum_to m (λ j. f i j)) ≡ sum_to m (λ j. sum_to n (λ i. f i j))
unfolding sum_to
sum_swap zero m f = sym (sum_zero m)
sum_swap (suc n) m f = omega (arith, sum_swap n m f, sum_add m (λ j. sum_to n (λ i. f i j)) (f n))

-- a sum whose every term is at least 1 is at least as large as its range
pub sum_full : (n : ℕ) (f : ℕ → ℕ) → ((k : ℕ) → k < n → 1 ≤ f k) → n ≤ sum_to n f
unfolding sum_to
sum_full zero f h = omega arith
sum_full (suc n) f h = omega (arith, sum_full n f (λ k lt. h k (omega arith)), h n (omega arith))

pub sum_at : (n : ℕ) (f : ℕ → ℕ) (a : ℕ) → a < n → f a ≤ sum_to n f
unfolding sum_to
sum_at zero f a lt = omega arith
sum_at (suc n) f a lt =
    ⊎_elim
    (λ e. omega (arith, ap f e))
    (λ (lo : a < n). omega (arith, sum_at n f a lo))
    (eq-or-lt_of_le (le_of_suc-le-suc lt))

-- two functions that differ at a alone
pub sum_update : (n : ℕ) (f g : ℕ → ℕ) (a : ℕ) → a < n → ((k : ℕ) → k < n → (k ≡ a → ⊥) → g k ≡ f k) → sum_to n g + f a ≡ sum_to n f + g a
unfolding sum_to
sum_update zero f g a lt h = omega arith
sum_update (suc n) f g a lt h =
    ⊎_elim
    (λ e. omega (arith, ap f e, ap g e, sum_ext n g f (λ k lo. h k (omega arith) (λ q. omega arith))))
    (λ (lo : a < n). omega (arith, h n (omega arith) (λ q. omega arith), sum_update n f g a lo (λ k lk. h k (omega arith))))
    (eq-or-lt_of_le (le_of_suc-le-suc lt))

pub hit_same : {a b : ℕ} → a ≡ b → hit a b ≡ 1
unfolding hit
hit_same {a} {b} e = ap bit (eq-eqb a b e)

pub hit_other : {a b : ℕ} → (a ≡ b → ⊥) → hit a b ≡ 0
unfolding hit
hit_other {a} {b} e = ap bit (ne_eqb a b e)

pub sum_one : (n : ℕ) (f : ℕ → ℕ) → ((k : ℕ) → k < n → f k ≤ 1) → sum_to n f ≤ n
unfolding sum_to
sum_one zero f h = omega arith
sum_one (suc n) f h = omega (arith, sum_one n f (λ k lt. h k (omega arith)), h n (omega arith))

-- one term more, as a loop counts
pub sum_more : (n : ℕ) (f : ℕ → ℕ) → sum_to (n + 1) f ≡ sum_to n f + f n
unfolding sum_to
sum_more n f = rw add-one

pub sum_none : (f : ℕ → ℕ) → sum_to 0 f ≡ 0
unfolding sum_to
sum_none f = refl

-- a sum of terms that are at most c
pub sum_most : (n c : ℕ) (f : ℕ → ℕ) → ((k : ℕ) → k < n → f k ≤ c) → sum_to n f ≤ n * c
unfolding sum_to
sum_most zero c f h = omega arith
sum_most (suc n) c f h = omega (arith, sum_most n c f (λ k lt. h k (omega arith)), h n (omega arith))

-- two terms of a sum
pub sum_two : (n : ℕ) (f : ℕ → ℕ) (a b : ℕ) → a < n → b < n → (a ≡ b → ⊥) → f a + f b ≤ sum_to n f
unfolding sum_to
sum_two zero f a b ha hb ne = omega arith
sum_two (suc n) f a b ha hb ne =
    ⊎_elim
    (λ e. ⊎_elim
    (λ q. absurd (ne (omega arith)))
    (λ (lo : b < n). omega (arith, ap f e, sum_at n f b lo))
    (eq-or-lt_of_le (le_of_suc-le-suc hb)))
    (λ (la : a < n). ⊎_elim
    (λ e. omega (arith, ap f e, sum_at n f a la))
    (λ (lo : b < n). omega (arith, sum_two n f a b la lo ne))
    (eq-or-lt_of_le (le_of_suc-le-suc hb)))
    (eq-or-lt_of_le (le_of_suc-le-suc ha))

-- every term of a sum by one factor
pub sum_scale : (n c : ℕ) (f : ℕ → ℕ) → sum_to n (λ k. c * f k) ≡ c * sum_to n f
unfolding sum_to
sum_scale zero c f = omega arith
sum_scale (suc n) c f = omega (arith, sum_scale n c f)

-- a sum in which only the term at x counts
pub sum_pick : (n x : ℕ) (f : ℕ → ℕ) → x < n → sum_to n (λ a. hit x a * f a) ≡ f x
sum_pick n x f lt =
    let one : hit x x ≡ 1 = hit_same {a = x} refl in
    let here : hit x x * f x ≡ f x = rw one (omega arith) in
    omega (
      arith,
      here,
      sum_zero n,
      sum_update n (λ a. 0) (λ a. hit x a * f a) x lt (λ k hk ne. rw (hit_other {a = x} {b = k} (λ e. ne (sym e))) (omega arith)),
    )

-- a sum of ones at x
pub sum_hit : (n x : ℕ) → x < n → sum_to n (λ a. hit x a) ≡ 1
sum_hit n x lt =
    omega (
      arith,
      hit_same {a = x} refl,
      sum_zero n,
      sum_update n (λ a. 0) (λ a. hit x a) x lt (λ k hk ne. hit_other {a = x} {b = k} (λ e. ne (sym e))),
    )

-- terms that are at most c, and whose sum is n times c, are all c
pub sum_tight : (n c : ℕ) (f : ℕ → ℕ) → ((k : ℕ) → k < n → f k ≤ c) → n * c ≤ sum_to n f → (k : ℕ) → k < n → f k ≡ c
unfolding sum_to
sum_tight zero c f h e k lt = omega arith
sum_tight (suc n) c f h e k lt =
    let most : sum_to n f ≤ n * c = sum_most n c f (λ k lo. h k (omega arith)) in
    let last : f n ≤ c = h n (omega arith) in
    ⊎_elim
    (λ q. omega (arith, ap f q))
    (λ (lo : k < n). sum_tight n c f (λ k lo. h k (omega arith)) (omega arith) k lo)
    (eq-or-lt_of_le (le_of_suc-le-suc lt))

-- a run of h equal terms more
pub sum_run : (t h c : ℕ) (f : ℕ → ℕ) → ((k : ℕ) → t ≤ k → k < t + h → f k ≡ c) → sum_to (t + h) f ≡ sum_to t f + h * c
sum_run t zero c f all = let e : t + 0 ≡ t = omega arith in rw e (omega arith)
sum_run t (suc h) c f all =
    let e : t + suc h ≡ (t + h) + 1 = omega arith in
    rw e (omega (arith, sum_more (t + h) f, all (t + h) (omega arith) (omega arith), sum_run t h c f (λ k lo hi. all k lo (omega arith))))

-- a part of a sum
pub sum_part : (m n : ℕ) (f : ℕ → ℕ) → m ≤ n → sum_to m f ≤ sum_to n f
unfolding sum_to
sum_part m zero f le = let e : m ≡ 0 = omega arith in rw e (omega arith)
sum_part m (suc n) f le =
    ⊎_elim
    (λ e. rw e (omega arith))
    (λ (lo : m < suc n). omega (arith, sum_part m n f (le_of_suc-le-suc lo)))
    (eq-or-lt_of_le le)

-- a sum that has come to its end
pub sum_done : (f : ℕ → ℕ) {s m n : ℕ} → m ≡ n → s ≡ sum_to m f → s ≡ sum_to n f
sum_done f e p = p ∙ ap (λ x. sum_to x f) e

-- one term of a sum grows by δ
pub sum_bump : (n k δ : ℕ) (f g : ℕ → ℕ) → k < n → g k ≡ f k + δ → ((i : ℕ) → i < n → (i ≡ k → ⊥) → g i ≡ f i) → sum_to n g ≡ sum_to n f + δ
sum_bump n k δ f g lt e h = omega (arith, sum_update n f g k lt h)

-- a sum whose terms are all 0
pub sum_all_zero : (n : ℕ) (f : ℕ → ℕ) → ((k : ℕ) → k < n → f k ≡ 0) → sum_to n f ≡ 0
sum_all_zero n f h = sum_ext n f (λ k. 0) h ∙ sum_zero n

-- a range cut in two
pub sum_split : (m n : ℕ) (f : ℕ → ℕ) → sum_to (m + n) f ≡ sum_to m f + sum_to n (λ k. f (m + k))
sum_split m zero f = let e : m + 0 ≡ m = omega arith in rw e (omega (arith, sum_none (λ k. f (m + k))))
sum_split m (suc n) f =
    let e : m + suc n ≡ (m + n) + 1 = omega arith in
    let g : suc n ≡ n + 1 = omega arith in
    rw (e, g) (omega (arith, sum_split m n f, sum_more (m + n) f, sum_more n (λ k. f (m + k))))

-- a term that is 1 where x is i, if x is i at one index at most
pub sum_once : (n i : ℕ) (x : ℕ → ℕ) → ((k m : ℕ) → k < n → m < n → x k ≡ i → x m ≡ i → k ≡ m) → sum_to n (λ k. hit (x k) i) ≤ 1
unfolding sum_to
sum_once zero i x one = omega arith
sum_once (suc n) i x one =
    by_eq (x n) i
    (λ e.
    omega (
      arith,
      hit_same e,
      sum_all_zero n (λ k. hit (x k) i) (λ k h. hit_other (λ q. let s : k ≡ n = one k n (omega arith) (omega arith) q e in omega arith)),
    ))
    (λ ne. omega (arith, hit_other ne, sum_once n i x (λ k m p q. one k m (omega arith) (omega arith))))

-- at most one index is x
pub sum_hit_most : (n x : ℕ) → sum_to n (λ k. hit x k) ≤ 1
sum_hit_most n x =
    by_lt x n
    (λ h. omega (arith, sum_hit n x h))
    (λ h. omega (arith, sum_all_zero n (λ k. hit x k) (λ k p. hit_other (λ q. omega arith))))

-- a sum that is larger by its term at a
pub sum_strict : (n a : ℕ) (f g : ℕ → ℕ) → a < n → ((k : ℕ) → k < n → f k + hit a k ≤ g k) → sum_to n f < sum_to n g
sum_strict n a f g h more = omega (arith, sum_mono n (λ k. f k + hit a k) g more, sum_add n f (λ k. hit a k), sum_hit n a h)
