-- What each rule leaves in the tables is what `keep_by_rule` promises: cells by the rule, further cells as before, admissible, at most D. Assumes nothing.
use Prim.Native.Nat.{ℕ, ◌*◌, ◌≤◌, ◌<◌}
use native.Mathlib.Omega.{arith}
use mathlib.Core.Path.{◌≡◌, ◌∙◌, ap}
use mathlib.Core.List.{List}
use lib.ListN.{length, take, drop, replicate, length-replicate}
use Rattle.sums.specs.Tables.{cell, written}
use Rattle.sums.proofs.Tables.{written_first, written_rest, take_cell}
use Rattle.star.specs.Lines.{Admissible}
use Rattle.star.proofs.LineLaws.{line_ext}
use Rattle.fair.specs.Fair.{fair_kept}
use Rattle.fair.proofs.Steps.{fair_length, fair_admissible, fair_below}
use Rattle.least.specs.Least.{Greatest, kept_from}
use Rattle.least.proofs.Keeping.{length_kept, kept_below, kept_admissible}
use Rattle.planner.specs.Work.{KeptByRule}

-- a table that begins with a matrix is admissible where that is, and at most what that is at most
module _ (n : ℕ) (table new : List ℕ) (first : take (n * n) table ≡ new) where
  pub as_admissible : {cap : List ℕ} → Admissible n cap new → Admissible n cap table
  as_admissible h = record { lines = λ ℓ p. omega (arith, line_ext n table new (take_cell n table new first) ℓ p, h.lines ℓ p) }

  pub as_below : (d : List ℕ) → ((i j : ℕ) → i < n → j < n → cell n new i j ≤ cell n d i j) → (i j : ℕ) → i < n → j < n → cell n table i j ≤ cell n d i j
  as_below d h i j p q = omega (arith, take_cell n table new first i j p q, h i j p q)

-- a table written from its start begins with what was written, and the rest is as before
module _ (n : ℕ) (new old table : List ℕ) (fits : length new ≡ n * n) (e : table ≡ written (n * n) new old) where
  begins : take (n * n) table ≡ new
  begins = ap (take (n * n)) e ∙ written_first (n * n) new old fits

  further : drop (n * n) table ≡ drop (n * n) old
  further = ap (drop (n * n)) e ∙ written_rest (n * n) new old fits

module _ (n rule : ℕ) (cap d kept withdrawn kept' withdrawn' : List ℕ) where
  pub kept_fairly : rule ≡ 0 → kept' ≡ written (n * n) (fair_kept n cap d) kept → withdrawn' ≡ written (n * n) (replicate (n * n) 0) withdrawn → KeptByRule n rule cap d kept withdrawn kept' withdrawn'
  kept_fairly zeroth k a =
      let first = begins n (fair_kept n cap d) kept kept' (fair_length n cap d) k in
      record {
        fair = λ _. (first, begins n (replicate (n * n) 0) withdrawn withdrawn' (length-replicate (n * n) 0) a);
        least = λ ne. absurd (ne zeroth);
        kept_rest = further n (fair_kept n cap d) kept kept' (fair_length n cap d) k;
        withdrawn_rest = further n (replicate (n * n) 0) withdrawn withdrawn' (length-replicate (n * n) 0) a;
        admissible = as_admissible n kept' _ first (fair_admissible n cap d);
        below = as_below n kept' _ first d (fair_below n cap d);
      }

  pub kept_least : (rule ≡ 0 → ⊥) → Greatest n cap d withdrawn' → drop (n * n) withdrawn' ≡ drop (n * n) withdrawn → kept' ≡ written (n * n) (kept_from n cap d withdrawn') kept → KeptByRule n rule cap d kept withdrawn kept' withdrawn'
  kept_least other g rest k =
      let first = begins n (kept_from n cap d withdrawn') kept kept' (length_kept n cap d withdrawn') k in
      record {
        fair = λ e. absurd (other e);
        least = λ _. (g, first);
        kept_rest = further n (kept_from n cap d withdrawn') kept kept' (length_kept n cap d withdrawn') k;
        withdrawn_rest = rest;
        admissible = as_admissible n kept' _ first (kept_admissible g);
        below = as_below n kept' _ first d (kept_below n cap d withdrawn');
      }
