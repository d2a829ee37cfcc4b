-- What follows from the promise of `plan` for every plan that meets it, as statements; their proofs are in proofs/PlanTheorems.antt.
use Rattle.std.specs.Prelude.{ℕ, ◌+◌, ◌*◌, ◌≤◌, ◌<◌, ◌≡◌, List, [], ◌∷◌, length, get_or, take}
use Rattle.sums.specs.Sums.{sum_to}
use Rattle.sums.specs.Tables.{cell}
use Rattle.star.specs.declared.refusals.Refusal.{Refusal}
use Rattle.star.specs.Refusals as verdict
use Rattle.star.specs.Tables.{Alike}
use Rattle.star.specs.Lines.{total, whole_frame, excess, Admissible}
use Rattle.star.specs.Schedules.{ConflictFree, Respects, refused_by}
use Rattle.star.specs.Refusals.{verdict_of, Sizes}
use Rattle.planner.specs.declared.answers.Report.{Report}
use Rattle.planner.specs.Plans.{Answer, Refused, report_of, PlanDone, PlanResult}
use Rattle.planner.specs.Lent.{Lent, lent, LentRoom}
use Rattle.planner.specs.Checks.{plan_verdict}

-- ---- plans with any capacities
-- Under both rules kept is within the capacities and at most the demand at each pair, and the schedule refuses, as source document 000 counts it,
-- exactly the refused total that is reported.
pub record SoundPlan (n l : ℕ) (cap d : List ℕ) (k : Lent) (f : Report) : Type 0 where
  pub admissible : Admissible n cap k.kept
  pub below : (i j : ℕ) → i < n → j < n → cell n k.kept i j ≤ cell n d i j
  pub honest : refused_by n l d k.schedule ≡ f.refused
  pub totals : f.kept + f.refused ≡ total n d

-- Under the least rule the refused total is the smallest over all conflict-free schedules of L slots that respect the capacities, also those that give
-- a pair more than it asked; and it is all row excesses plus all column excesses minus the total of A.
pub record LeastPlan (n l : ℕ) (cap d : List ℕ) (k : Lent) (f : Report) : Type 0 where
  pub smallest : (s : List ℕ) → ConflictFree n l s → Respects n l cap s → f.refused ≤ refused_by n l d s
  pub by_excess : f.refused + total n k.withdrawn ≡ sum_to (2 * n) (excess n cap d)

-- Two plans of demands that agree at each pair agree in both totals; under the fair rule in the first cells of kept and withdrawn; under the least
-- rule in those of kept where they agree in those of A. What is left is listed in docs/FREEDOMS.md.
pub record SamePlans (n rule : ℕ) (k₁ k₂ : Lent) (f₁ f₂ : Report) : Type 0 where
  pub kept_totals : f₁.kept ≡ f₂.kept
  pub refused_totals : f₁.refused ≡ f₂.refused
  pub fair_cells : rule ≡ 0 → (take (n * n) k₁.kept ≡ take (n * n) k₂.kept) × (take (n * n) k₁.withdrawn ≡ take (n * n) k₂.withdrawn)
  pub least_cells : rule ≡ 1 → take (n * n) k₁.withdrawn ≡ take (n * n) k₂.withdrawn → take (n * n) k₁.kept ≡ take (n * n) k₂.kept

-- ---- the entry, each line with the whole frame
-- Two results on the same input: the verdict and both totals are the same always; where the call is refused every cell is; under the fair rule kept and
-- withdrawn are; under the least rule kept is where withdrawn is.
pub record SameResults (rule : ℕ) (k₁ k₂ : Lent) (r₁ r₂ : Answer) : Type 0 where
  pub verdicts : verdict_of r₁ ≡ verdict_of r₂
  pub kept_totals : (report_of r₁).kept ≡ (report_of r₂).kept
  pub refused_totals : (report_of r₁).refused ≡ (report_of r₂).refused
  pub refused_cells : (x : Refusal) → verdict_of r₁ ≡ verdict.Refused x → k₁ ≡ k₂
  pub fair_cells : verdict_of r₁ ≡ verdict.Accepted → rule ≡ 0 → (k₁.kept ≡ k₂.kept) × (k₁.withdrawn ≡ k₂.withdrawn)
  pub least_cells : verdict_of r₁ ≡ verdict.Accepted → rule ≡ 1 → k₁.withdrawn ≡ k₂.withdrawn → k₁.kept ≡ k₂.kept

-- Only the cells needed matter: two results on demands that agree in them, whatever else the tables lent hold, have the same verdict and the same totals,
-- and accepted ones agree as plans do.
pub record SameAsNeeded (n rule : ℕ) (k₁ k₂ : Lent) (r₁ r₂ : Answer) : Type 0 where
  pub verdicts : verdict_of r₁ ≡ verdict_of r₂
  pub kept_totals : (report_of r₁).kept ≡ (report_of r₂).kept
  pub refused_totals : (report_of r₁).refused ≡ (report_of r₂).refused
  pub plans : verdict_of r₁ ≡ verdict.Accepted → SamePlans n rule k₁ k₂ (report_of r₁) (report_of r₂)

-- The wrong planners of document 01, each shut out: one that refuses a call without its condition; one whose schedule is left as it was; one that
-- has one fixed plan for every demand.
pub record WrongPlanners : Type 0 where
  pub refuses_everything : (n l rule : ℕ) (d : List ℕ) (k k' : Lent) (x : Refusal) →
      plan_verdict n l rule d (length k.kept) (length k.withdrawn) (length k.schedule) ≡ verdict.Accepted → PlanResult n l rule d k k' (Refused x) → ⊥
  pub untouched_schedule : (rule : ℕ) (k a k' a' : List ℕ) (r : Answer) → rule ≤ 1 → 1 ≤ length k → 1 ≤ length a →
      PlanResult 1 1 rule (1 ∷ []) (lent k a (255 ∷ [])) (lent k' a' (255 ∷ [])) r → ⊥
  pub fixed_plan : (rule : ℕ) (k k' : Lent) (r : Answer) → rule ≤ 1 → LentRoom 1 1 k → PlanResult 1 1 rule (1 ∷ []) k k' r → PlanResult 1 1 rule (0 ∷ []) k k' r → ⊥

-- all of it
pub record PlanTheorems : Type 0 where
  pub sound : (n l rule : ℕ) (cap d : List ℕ) (k k' : Lent) (f : Report) → rule ≤ 1 → PlanDone n l rule cap d k k' f → SoundPlan n l cap d k' f
  pub least : (n l : ℕ) (cap d : List ℕ) (k k' : Lent) (f : Report) → PlanDone n l 1 cap d k k' f → LeastPlan n l cap d k' f
  pub same : (n l rule : ℕ) (cap d e : List ℕ) (k k₁ x k₂ : Lent) (f₁ f₂ : Report) → rule ≤ 1 → ((i j : ℕ) → i < n → j < n → cell n d i j ≡ cell n e i j) →
      PlanDone n l rule cap d k k₁ f₁ → PlanDone n l rule cap e x k₂ f₂ → SamePlans n rule k₁ k₂ f₁ f₂
  -- numbers in their ranges, tables that are long enough and no demand above 65,535 are accepted
  pub accepts : (n l rule : ℕ) (d : List ℕ) (k k' : Lent) (r : Answer) → PlanResult n l rule d k k' r →
      Sizes n l → rule ≤ 1 → n * n ≤ length d → LentRoom n l k → ((p : ℕ) → p < n * n → get_or d p 0 ≤ 65535) → verdict_of r ≡ verdict.Accepted
  pub accepted : (n l rule : ℕ) (d : List ℕ) (k k' : Lent) (r : Answer) → PlanResult n l rule d k k' r → verdict_of r ≡ verdict.Accepted →
      SoundPlan n l (whole_frame n l) d k' (report_of r)
  -- under the least rule no conflict-free schedule of L slots refuses less: each respects the whole frame
  pub smallest : (n l : ℕ) (d : List ℕ) (k k' : Lent) (r : Answer) → PlanResult n l 1 d k k' r → verdict_of r ≡ verdict.Accepted →
      (s : List ℕ) → ConflictFree n l s → (report_of r).refused ≤ refused_by n l d s
  pub unique : (n l rule : ℕ) (d : List ℕ) (k k₁ k₂ : Lent) (r₁ r₂ : Answer) → PlanResult n l rule d k k₁ r₁ → PlanResult n l rule d k k₂ r₂ → SameResults rule k₁ k₂ r₁ r₂
  pub needed : (n l rule : ℕ) (d e : List ℕ) (k k₁ x k₂ : Lent) (r₁ r₂ : Answer) → PlanResult n l rule d k k₁ r₁ → PlanResult n l rule e x k₂ r₂ →
      Alike (n * n) d e → LentRoom n l k → LentRoom n l x → SameAsNeeded n rule k₁ k₂ r₁ r₂
  -- the three tables keep their lengths
  pub lengths : (n l rule : ℕ) (d : List ℕ) (k k' : Lent) (r : Answer) → PlanResult n l rule d k k' r →
      (length k'.kept ≡ length k.kept) × (length k'.withdrawn ≡ length k.withdrawn) × (length k'.schedule ≡ length k.schedule)
  pub wrong : WrongPlanners
