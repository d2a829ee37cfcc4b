-- A line rewritten cell by cell: by what a store to a cell of a line leaves. Assumes nothing.
use Prim.Native.Nat.{ℕ, ◌+◌, ◌*◌, ◌≤◌, ◌<◌}
use native.Mathlib.Omega.{arith}
use mathlib.Core.Path.{◌≡◌, sym, ◌∙◌, ap}
use mathlib.Core.List.{List}
use lib.ListN.{length, set}
use Rattle.sums.specs.Tables.{cell}
use Rattle.sums.proofs.Cases.{by_eq}
use Rattle.star.specs.Lines.{source_on, destination_on, on_line}
use Rattle.star.proofs.StoreLaws.{along_here, along_other, along_off}
use Rattle.least.specs.Promises.{Rewritten}

-- ---- a line rewritten up to its m-th cell
pub record Rewriting (n ℓ : ℕ) (f : ℕ → ℕ) (m : ℕ) (k k' : List ℕ) : Type 0 where
  pub on : (t : ℕ) → t < m → on_line n k' ℓ t ≡ f t
  pub off : (i j : ℕ) → i < n → j < n → (i ≡ ℓ → ⊥) → (n + j ≡ ℓ → ⊥) → cell n k' i j ≡ cell n k i j

module _ (n ℓ : ℕ) (f : ℕ → ℕ) where
  pub rewriting_more : (m : ℕ) (k k' : List ℕ) (x : ℕ) → ℓ < 2 * n → m < n → n * n ≤ length k' → x ≡ f m → Rewriting n ℓ f m k k' → Rewriting n ℓ f (m + 1) k (set k' (source_on n ℓ m * n + destination_on n ℓ m) x)
  rewriting_more m k k' x hl hm fits e r = record {
    on = λ t h.
        by_eq t m
        (λ s. ap (on_line n _ ℓ) s ∙ along_here n k' ℓ m x hl hm fits ∙ e ∙ ap f (sym s))
        (λ ne. along_other n k' ℓ m x hl hm t (omega arith) ne ∙ r.on t (omega arith));
    off = λ i j p q a b. along_off n k' ℓ m x hl hm i j q a b ∙ r.off i j p q a b;
  }

-- what a line is rewritten to matters at its cells alone
pub rewritten_same : (n ℓ : ℕ) (f g : ℕ → ℕ) (k k' : List ℕ) → ((t : ℕ) → t < n → f t ≡ g t) → Rewritten n ℓ f k k' → Rewritten n ℓ g k k'
rewritten_same n ℓ f g k k' same r = record { on = λ t h. r.on t h ∙ same t h; off = r.off }
