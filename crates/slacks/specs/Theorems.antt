-- What follows from the promise of `slacks`, as statements; their proofs are in proofs/SlacksTheorems.antt.
use Rattle.std.specs.Prelude.{ℕ, ◌*◌, ◌≤◌, ◌<◌, ◌≡◌, List, ℤ, length, get_or, take}
use Rattle.star.specs.Tables.{Alike}
use Rattle.star.specs.Refusals.{Verdict, Accepted, Sizes}
use Rattle.slacks.specs.Slacks.{SlacksResult}

pub record SlacksTheorems : Type 0 where
  -- numbers in their ranges, tables that are long enough and no demand above 65,535 are accepted
  pub accepts : (n l : ℕ) (d : List ℕ) (table table' : List ℤ) (v : Verdict) → SlacksResult n l d table table' v →
      Sizes n l → n * n ≤ length d → 2 * n ≤ length table → ((p : ℕ) → p < n * n → get_or d p 0 ≤ 65535) → v ≡ Accepted
  -- two results on the same input are one
  pub unique : (n l : ℕ) (d : List ℕ) (table table₁ table₂ : List ℤ) (v₁ v₂ : Verdict) → SlacksResult n l d table table₁ v₁ → SlacksResult n l d table table₂ v₂ →
      (v₁ ≡ v₂) × (table₁ ≡ table₂)
  -- the table keeps its length
  pub lengths : (n l : ℕ) (d : List ℕ) (table table' : List ℤ) (v : Verdict) → SlacksResult n l d table table' v → length table' ≡ length table
  -- only the cells needed matter: two calls that agree in them are answered alike, and write the same slacks
  pub needed : (n l : ℕ) (d e : List ℕ) (table₁ table₁' table₂ table₂' : List ℤ) (v₁ v₂ : Verdict) → SlacksResult n l d table₁ table₁' v₁ → SlacksResult n l e table₂ table₂' v₂ →
      Alike (n * n) d e → 2 * n ≤ length table₁ → 2 * n ≤ length table₂ → (v₁ ≡ v₂) × (v₁ ≡ Accepted → take (2 * n) table₁' ≡ take (2 * n) table₂')
