-- The theorems on slacks: the verdict is a function of the input, and the table one of verdict and input; both read only the cells needed. Assumes nothing.
use Prim.Native.Nat.{ℕ, ◌*◌, ◌≤◌}
use mathlib.Core.Path.{◌≡◌, refl, sym, ◌∙◌, ap}
use mathlib.Core.List.{List}
use lib.IntN.{ℤ}
use lib.ListN.{length, take}
use borrow.Author.Tests.{le-ltb}
use Rattle.sums.proofs.Tables.{length_tab, tab_ext, written_first, written_length}
use Rattle.std.specs.Prelude.{Ok, Err}
use Rattle.star.specs.Tables.{Demands, Alike}
use Rattle.star.specs.Lines.{whole_frame}
use Rattle.star.specs.Checks.{demand_short_verdict, demand_above_verdict}
use Rattle.star.specs.Refusals.{Verdict, Accepted, Sizes}
use Rattle.star.proofs.RefusalLaws.{passes, then_goes, sizes_fit, demand_fits, demand_within, promise_same}
use Rattle.star.proofs.AlikeLaws.{alike_cell, alike_above, both_long, slack_ext}
use Rattle.slacks.specs.Slacks.{SlacksResult}
use Rattle.slacks.specs.Theorems.{SlacksTheorems}
use Rattle.slacks.specs.Checks.{slacks_verdict}
use Rattle.slacks.proofs.SlackLaws.{slacks_fits}

-- numbers in their ranges, tables that are long enough and no demand above 65,535
plainly : (n l : ℕ) (d : List ℕ) (cells : ℕ) → Sizes n l → n * n ≤ length d → 2 * n ≤ cells → Demands n d → Accepted ≡ slacks_verdict n l d cells
unfolding slacks_verdict
plainly n l d cells sizes demand lines within =
    then_goes (sizes_fit n l sizes) refl (then_goes (demand_fits n _ demand) refl (then_goes (passes _ (le-ltb _ _ lines) refl) refl (demand_within n d within)))

same_length : (n l : ℕ) (d : List ℕ) (table table' : List ℤ) (v : Verdict) → SlacksResult n l d table table' v → length table' ≡ length table
same_length n l d table table' (Ok _) x =
    ap length (x.accepted refl) ∙ written_length (2 * n) _ table (length_tab _ (2 * n)) (slacks_fits n l d (length table) (sym x.answer)).lines
same_length n l d table table' (Err r) x = ap length (x.refused r refl)

module _ (n l : ℕ) (d e : List ℕ) (cells₁ cells₂ : ℕ) (same : Alike (n * n) d e) (fits₁ : 2 * n ≤ cells₁) (fits₂ : 2 * n ≤ cells₂) where
  alike_verdict : slacks_verdict n l d cells₁ ≡ slacks_verdict n l e cells₂
  unfolding slacks_verdict demand_short_verdict demand_above_verdict
  alike_verdict = rw (both_long same.first_room same.second_room, both_long fits₁ fits₂, alike_above n same) refl

alike_table : (n l : ℕ) (d e : List ℕ) (table₁ table₁' table₂ table₂' : List ℤ) (v₁ v₂ : Verdict) → SlacksResult n l d table₁ table₁' v₁ → SlacksResult n l e table₂ table₂' v₂ →
    Alike (n * n) d e → v₁ ≡ Accepted → v₂ ≡ Accepted → take (2 * n) table₁' ≡ take (2 * n) table₂'
alike_table n l d e table₁ table₁' table₂ table₂' v₁ v₂ x y same ok₁ ok₂ =
    ap (take (2 * n)) (x.accepted ok₁)
    ∙ written_first (2 * n) _ table₁ (length_tab _ (2 * n))
    ∙ tab_ext (2 * n) _ _ (λ ℓ h. slack_ext n (whole_frame n l) d e (alike_cell n same) ℓ h)
    ∙ sym (written_first (2 * n) _ table₂ (length_tab _ (2 * n)))
    ∙ sym (ap (take (2 * n)) (y.accepted ok₂))

pub slacks_theorems : SlacksTheorems
slacks_theorems = record {
  accepts = λ n l d table table' v x sizes demand lines most. x.answer ∙ sym (plainly n l d (length table) sizes demand lines (record { most = most }));
  unique = λ n l d table table₁ table₂ v₁ v₂ x y. promise_same v₁ x y;
  lengths = same_length;
  needed = λ n l d e table₁ table₁' table₂ table₂' v₁ v₂ x y same fits₁ fits₂.
      let q : v₁ ≡ v₂ = x.answer ∙ alike_verdict n l d e (length table₁) (length table₂) same fits₁ fits₂ ∙ sym y.answer in
      (q, λ ok. alike_table n l d e table₁ table₁' table₂ table₂' v₁ v₂ x y same ok (sym q ∙ ok));
}
