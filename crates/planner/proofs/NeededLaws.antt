-- Both rules read a demand, and the least rule a withdrawn matrix, only pair by pair: matrices that agree at each pair are kept alike. Assumes nothing.
use Prim.Native.Nat.{ℕ, ◌-◌, ◌*◌, ◌/◌, ◌%◌, ◌<◌}
use native.Mathlib.Omega.{arith}
use mathlib.Core.Path.{◌≡◌, refl, sym, ◌∙◌, ap, ap₂}
use mathlib.Core.List.{List}
use lib.ListN.{replicate}
use Rattle.sums.specs.Tables.{cell, square}
use Rattle.sums.proofs.Tables.{tab_ext, place_split, take_cell}
use Rattle.star.specs.Lines.{total}
use Rattle.star.proofs.LineLaws.{total_ext}
use Rattle.star.proofs.AlikeLaws.{excess_ext, critical_ext}
use Rattle.fair.specs.Fair.{fair_kept, steps, uncut}
use Rattle.least.specs.Least.{Withdrawn, Greatest, left, kept_cell, kept_from}
use Rattle.least.proofs.Keeping.{refused_total}
use Rattle.planner.specs.Plans.{Plan}
use Rattle.planner.specs.Lent.{Lent}

pub rule_ext : (n : ℕ) (f g : ℕ → ℕ → ℕ) → ((i j : ℕ) → i < n → j < n → f i j ≡ g i j) → square n f ≡ square n g
unfolding square
rule_ext n f g same = tab_ext (n * n) _ _ (λ p h. let s = place_split n p h in same (p / n) (p % n) s.0 s.1.0)

module _ (n : ℕ) (cap d e : List ℕ) (same : (i j : ℕ) → i < n → j < n → cell n d i j ≡ cell n e i j) where
  pub fair_ext : fair_kept n cap d ≡ fair_kept n cap e
  unfolding fair_kept uncut
  fair_ext = ap (λ v. (steps n cap (record { values = v; done = replicate (2 * n) 0 }) (2 * n)).values) (rule_ext n (cell n d) (cell n e) same)

  pub kept_ext : (a b : List ℕ) → ((i j : ℕ) → i < n → j < n → cell n a i j ≡ cell n b i j) → kept_from n cap d a ≡ kept_from n cap e b
  unfolding kept_from left
  kept_ext a b withdrawn = ap (λ x. square n (kept_cell n cap x)) (rule_ext n _ _ (λ i j hi hj. ap₂ ◌-◌ (same i j hi hj) (withdrawn i j hi hj)))

withdrawn_ext : (n : ℕ) (cap d e a : List ℕ) → ((i j : ℕ) → i < n → j < n → cell n d i j ≡ cell n e i j) → Withdrawn n cap d a → Withdrawn n cap e a
withdrawn_ext n cap d e a same w = record {
  off = λ i j hi hj c. w.off i j hi hj (critical_ext n cap d e same i j hi hj ∙ c);
  below = λ i j hi hj. omega (arith, w.below i j hi hj, same i j hi hj);
  lines = λ ℓ h. omega (arith, w.lines ℓ h, excess_ext n cap d e same ℓ h);
}

greatest_ext : (n : ℕ) (cap d e a : List ℕ) → ((i j : ℕ) → i < n → j < n → cell n d i j ≡ cell n e i j) → Greatest n cap d a → Greatest n cap e a
greatest_ext n cap d e a same g = record {
  withdrawn = withdrawn_ext n cap d e a same g.withdrawn;
  most = λ b w. g.most b (withdrawn_ext n cap e d b (λ i j hi hj. sym (same i j hi hj)) w);
}

-- under the least rule two plans keep one total: greatest matrices have one total, and kept and A together make up the excesses
pub least_total : {n l : ℕ} {cap d e : List ℕ} {k₁ k₂ : Lent} → ((i j : ℕ) → i < n → j < n → cell n d i j ≡ cell n e i j) → Plan n l 1 cap d k₁ → Plan n l 1 cap e k₂ →
    total n k₁.kept ≡ total n k₂.kept
least_total {n} {l} {cap} {d} {e} {k₁} {k₂} same p q =
    let g = greatest_ext n cap d e k₁.withdrawn same (p.least refl).0 in
    let h = (q.least refl).0 in
    let kept = (p.least refl).1 ∙ kept_ext n cap d e same k₁.withdrawn k₁.withdrawn (λ i j hi hj. refl) in
    omega (
      arith,
      total_ext n k₁.kept (kept_from n cap e k₁.withdrawn) (take_cell n k₁.kept (kept_from n cap e k₁.withdrawn) kept),
      total_ext n k₂.kept (kept_from n cap e k₂.withdrawn) (take_cell n k₂.kept (kept_from n cap e k₂.withdrawn) (q.least refl).1),
      refused_total g,
      refused_total h,
      g.most k₂.withdrawn h.withdrawn,
      h.most k₁.withdrawn g.withdrawn,
    )
