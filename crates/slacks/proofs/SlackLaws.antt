-- The verdict of `slacks` in numbers, and what an accepted call has passed. Assumes nothing.
use Prim.Native.Nat.{ℕ, ◌*◌, ◌≤◌}
use mathlib.Core.Path.{◌≡◌, refl}
use mathlib.Core.List.{List}
use borrow.Author.Tests.{ltb-false}
use Rattle.star.specs.Tables.{Demands}
use Rattle.star.specs.Refusals.{Accepted, notice_of, Sizes}
use Rattle.star.specs.Checks.{sizes_verdict, demand_short_verdict, demand_above_verdict, then}
use Rattle.star.specs.Rooms.{Square}
use Rattle.star.proofs.RefusalLaws.{in_numbers, passed, then_passed, group_in_numbers, sized, long_demand, within}
use Rattle.slacks.specs.Slacks.{slacks_notice}
use Rattle.slacks.specs.Checks.{slacks_verdict}

pub slacks_notice_lem : (n l : ℕ) (d : List ℕ) (cells : ℕ) → notice_of (slacks_verdict n l d cells) ≡ slacks_notice n l d cells
unfolding slacks_verdict slacks_notice sizes_verdict demand_short_verdict demand_above_verdict then
slacks_notice_lem n l d cells =
    group_in_numbers _ _ _ _ (group_in_numbers _ _ _ _ (group_in_numbers _ _ _ _ (group_in_numbers _ _ _ _ (in_numbers _ _ _ refl))))

-- what an accepted call has passed
pub record Fits (n l : ℕ) (d : List ℕ) (cells : ℕ) : Type 0 where
  pub sizes : Sizes n l
  pub demand : Square n d
  pub within : Demands n d
  pub lines : 2 * n ≤ cells

pub slacks_fits : (n l : ℕ) (d : List ℕ) (cells : ℕ) → slacks_verdict n l d cells ≡ Accepted → Fits n l d cells
unfolding slacks_verdict
slacks_fits n l d cells e =
    let a = then_passed _ _ e in
    let b = then_passed _ _ a.1 in
    let c = then_passed _ _ b.1 in
    let sizes = sized n l a.0 in
    record {
      sizes = sizes;
      demand = record { nodes = sizes.nodes; cells = long_demand n _ b.0 };
      within = within n d c.1;
      lines = ltb-false _ _ (passed _ _ _ c.0).0;
    }
