-- Where all lines of a table have one sum and every cell above 0 is allowed, a failed search cannot be: the marked sources are fewer than the
-- destinations whose source is marked or none, but hold all that those destinations have. The laws assume nothing.
use mathlib.Core.Path.{◌≡◌, refl, sym, ap, ◌∙◌}
use mathlib.Core.List.{List}
use Prim.Native.Nat.{ℕ, zero, suc, ◌+◌, ◌*◌, ◌≤◌, ◌<◌}
use native.Mathlib.Omega.{arith}
use native.Mathlib.Nat.{mul-le-mul_left}
use lib.ListN.{get_or}
use Rattle.sums.specs.Sums.{sum_to, hit}
use Rattle.sums.specs.Tables.{cell}
use Rattle.sums.proofs.Sums.{sum_ext, sum_mono, sum_swap, sum_scale, sum_pick, sum_hit, sum_hit_most, sum_tight, hit_same, hit_other}
use Rattle.sums.proofs.Cases.{by_eq}
use Rattle.pairs.specs.Pairs.{allowed, partners, Paired, Full, Stuck}

-- 1 for a positive number
sign : ℕ → ℕ
sign zero = 0
sign (suc k) = 1

sign_pos : (k : ℕ) → 0 < k → sign k ≡ 1
unfolding sign
sign_pos zero h = absurd (omega arith)
sign_pos (suc k) h = refl

-- a sum over the columns of a function of their rows, by rows
by_rows : (m : ℕ → ℕ) (n : ℕ) (w : ℕ → ℕ) → ((j : ℕ) → j < n → m j ≤ n)
    → sum_to n (λ j. w (m j)) ≡ sum_to (suc n) (λ a. w a * sum_to n (λ j. hit (m j) a))
by_rows m n w bound =
    sum_ext n (λ j. w (m j)) (λ j. sum_to (suc n) (λ a. hit (m j) a * w a)) (λ j hj. sym (sum_pick (suc n) (m j) w (omega (arith, bound j hj))))
    ∙ sum_swap n (suc n) (λ j a. hit (m j) a * w a)
    ∙ sum_ext (suc n) (λ a. sum_to n (λ j. hit (m j) a * w a)) (λ a. w a * sum_to n (λ j. hit (m j) a))
    (λ a ha. sum_ext n (λ j. hit (m j) a * w a) (λ j. w a * hit (m j) a) (λ j hj. omega arith) ∙ sum_scale n (w a) (λ j. hit (m j) a))

-- w marks rows, d columns, g is a table whose marked columns have their weight in marked rows
module _ (n S : ℕ) (w d : ℕ → ℕ) (g : ℕ → ℕ → ℕ)
    (rows : (i : ℕ) → i < n → sum_to n (λ j. g i j) ≤ S)
    (cols : (j : ℕ) → j < n → S ≤ sum_to n (λ i. g i j))
    (inside : (i j : ℕ) → i < n → j < n → d j * g i j ≤ w i * g i j) where
  pub weigh : S * sum_to n d ≤ S * sum_to n w
  weigh =
      let low : sum_to n (λ j. S * d j) ≤ sum_to n (λ j. sum_to n (λ i. d j * g i j)) =
      sum_mono n (λ j. S * d j) (λ j. sum_to n (λ i. d j * g i j)) (λ j hj. omega (arith, sum_scale n (d j) (λ i. g i j), mul-le-mul_left (d j) (cols j hj))) in
      let mid : sum_to n (λ j. sum_to n (λ i. d j * g i j)) ≤ sum_to n (λ j. sum_to n (λ i. w i * g i j)) =
      sum_mono n (λ j. sum_to n (λ i. d j * g i j)) (λ j. sum_to n (λ i. w i * g i j)) (λ j hj. sum_mono n (λ i. d j * g i j) (λ i. w i * g i j) (λ i hi. inside i j hi hj)) in
      let high : sum_to n (λ i. sum_to n (λ j. w i * g i j)) ≤ sum_to n (λ i. S * w i) =
      sum_mono n (λ i. sum_to n (λ j. w i * g i j)) (λ i. S * w i) (λ i hi. omega (arith, sum_scale n (w i) (λ j. g i j), mul-le-mul_left (w i) (rows i hi))) in
      omega (arith, low, mid, high, sum_swap n n (λ i j. w i * g i j), sum_scale n S d, sum_scale n S w)

module _ {n : ℕ} {may source : List ℕ} (v : List ℕ) (S : ℕ) (bound : (j : ℕ) → j < n → get_or source j 0 ≤ n) (some : 1 ≤ S)
    (rows : (i : ℕ) → i < n → sum_to n (λ j. cell n v i j) ≤ S) (columns : (j : ℕ) → j < n → S ≤ sum_to n (λ i. cell n v i j))
    (allows : (i j : ℕ) → i < n → j < n → 1 ≤ cell n v i j → allowed may i j ≡ 1) (k : Stuck n may source) where
  w : ℕ → ℕ
  w a = sign (k.mark a)

  -- more destinations than sources are marked
  more_columns : sum_to n w + 1 ≤ sum_to n (λ j. w (get_or source j 0))
  unfolding sum_to partners w sign
  more_columns =
      let each : sum_to n w ≤ sum_to n (λ a. w a * partners n source a) =
      sum_mono n w (λ a. w a * partners n source a) (λ a ha. by_eq (k.mark a) 0
      (λ e. omega (arith, ap sign e))
      (λ ne. let one : w a ≡ 1 = sign_pos (k.mark a) (omega arith) in rw one (omega (arith, k.paired a ha (omega arith))))) in
      let last : w n ≡ 1 = ap sign k.root in
      let free : w n * partners n source n ≡ partners n source n = rw last (omega arith) in
      omega (arith, each, free, k.free, by_rows (λ j. get_or source j 0) n w bound)

  inside : (i j : ℕ) → i < n → j < n → w (get_or source j 0) * cell n v i j ≤ w i * cell n v i j
  unfolding w sign
  inside i j hi hj =
      by_eq (k.mark (get_or source j 0)) 0
      (λ e. let z : w (get_or source j 0) ≡ 0 = ap sign e in rw z (omega arith))
      (λ ne. by_eq (cell n v i j) 0
      (λ e. rw e (omega arith))
      (λ pos.
      let one : w i ≡ 1 = sign_pos (k.mark i) (k.closed i j hi hj (omega arith) (allows i j hi hj (omega arith))) in
      let two : w (get_or source j 0) ≡ 1 = sign_pos (k.mark (get_or source j 0)) (omega arith) in
      rw (one, two) (omega arith)))

  pub never_stuck : ⊥
  never_stuck =
      let heavy : S * sum_to n (λ j. w (get_or source j 0)) ≤ S * sum_to n w = weigh n S w (λ j. w (get_or source j 0)) (cell n v) rows columns inside in
      omega (arith, heavy, some, mul-le-mul_left S more_columns)

-- ---- where every destination has a source, every source has one destination
sum_ones : (k : ℕ) → sum_to k (λ j. 1) ≡ k
unfolding sum_to
sum_ones zero = refl
sum_ones (suc k) = omega (arith, sum_ones k)

module _ {n : ℕ} {may source destination : List ℕ} (p : Paired n may source destination) where
  partners_once : (i : ℕ) → i < n → partners n source i ≤ 1
  unfolding partners
  partners_once i hi =
      let each : sum_to n (λ j. hit (get_or source j 0) i) ≤ sum_to n (λ j. hit (get_or destination i 0) j) =
      sum_mono n (λ j. hit (get_or source j 0) i) (λ j. hit (get_or destination i 0) j) (λ j hj. by_eq (get_or source j 0) i
      (λ e.
      let q : get_or destination i 0 ≡ j = ap (λ (x : ℕ). get_or destination x 0) (sym e) ∙ p.back j hj (omega arith) in
      omega (arith, hit_same e, hit_same q))
      (λ ne. omega (arith, hit_other ne))) in
      omega (arith, each, sum_hit_most n (get_or destination i 0))

  pub partners_all : Full n source → (i : ℕ) → i < n → partners n source i ≡ 1
  unfolding partners
  partners_all f =
      sum_tight n 1 (partners n source) partners_once
      (let all : sum_to n (λ j. sum_to n (λ a. hit (get_or source j 0) a)) ≡ sum_to n (λ j. 1) =
      sum_ext n (λ j. sum_to n (λ a. hit (get_or source j 0) a)) (λ j. 1) (λ j hj. sum_hit n (get_or source j 0) (f.all j hj)) in
      omega (arith, all, sum_ones n, sum_swap n n (λ j a. hit (get_or source j 0) a)))
