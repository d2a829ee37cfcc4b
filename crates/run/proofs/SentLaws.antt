-- What a plan's tables say of its demand: under the least rule no schedule meets more. A demand that is met and what is refused of it make up the demand; the rest is the laws of the two rules. Assumes nothing.
use Prim.Native.Nat.{ℕ, ◌+◌, ◌-◌, ◌≤◌, ◌<◌, min}
use native.Mathlib.Omega.{arith}
use mathlib.Core.Path.{◌≡◌, refl, sym, ◌∙◌, ap}
use mathlib.Core.List.{List}
use Rattle.sums.specs.Sums.{sum_to}
use Rattle.sums.specs.Tables.{cell}
use Rattle.sums.proofs.Sums.{sum_ext, sum_add}
use Rattle.sums.proofs.Tables.{take_cell}
use Rattle.star.specs.Lines.{total}
use Rattle.star.specs.Schedules.{count, Respects, refused_by}
use Rattle.star.proofs.LineLaws.{total_ext}
use Rattle.least.specs.Least.{kept_from}
use Rattle.least.proofs.LeastIsLeast.{least_is_least}
use Rattle.planner.specs.Plans.{Plan}
use Rattle.planner.specs.Lent.{Lent}
use Rattle.run.specs.Histories.{met, given}

-- the schedule gives what is kept
pub given_kept : {n l rule : ℕ} {cap d : List ℕ} {k : Lent} → Plan n l rule cap d k → given n l k.schedule ≡ total n k.kept
unfolding given total
given_kept {n} p = sum_ext n _ _ (λ i hi. sum_ext n _ _ (λ j hj. p.carried.exact i j hi hj))

-- what of a demand a schedule meets, and what it refuses
pub met_and_refused : (n l : ℕ) (d s : List ℕ) → met n l (cell n d) s + refused_by n l d s ≡ total n d
unfolding met refused_by total
met_and_refused n l d s =
    sym (sum_add n (λ i. sum_to n (λ j. min (cell n d i j) (count n l s i j))) (λ i. sum_to n (λ j. cell n d i j - count n l s i j)))
    ∙ sum_ext n _ _ (λ i hi. sym (sum_add n (λ j. min (cell n d i j) (count n l s i j)) (λ j. cell n d i j - count n l s i j)) ∙ sum_ext n _ _ (λ j hj. omega arith))

pub met_ext : (n l : ℕ) (f g : ℕ → ℕ → ℕ) (s : List ℕ) → ((i j : ℕ) → i < n → j < n → f i j ≡ g i j) → met n l f s ≡ met n l g s
unfolding met
met_ext n l f g s same = sum_ext n _ _ (λ i hi. sum_ext n _ _ (λ j hj. ap (λ x. min x (count n l s i j)) (same i j hi hj)))

-- under the least rule no schedule of L slots that respects the capacities meets more of the demand than the plan's gives
pub plan_most : {n l : ℕ} {cap d : List ℕ} {k : Lent} → Plan n l 1 cap d k → (other : List ℕ) → Respects n l cap other → met n l (cell n d) other ≤ given n l k.schedule
plan_most {n} {l} {cap} {d} {k} p other fits = let g = p.least refl in
    omega (
      arith,
      least_is_least g.0 l other fits,
      met_and_refused n l d other,
      given_kept p,
      total_ext n k.kept (kept_from n cap d k.withdrawn) (take_cell n k.kept _ g.1),
    )
