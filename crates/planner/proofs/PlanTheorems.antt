-- The theorems on plans. Each rule's laws give admissible and below; counts equal to kept turn the refused total into source document 000's; greatest
-- matrices have one total, so the totals agree. An entry's theorems are those of plans with the whole frame: an accepted call has its rule, 0 or 1, and
-- every conflict-free schedule respects the whole frame. Assumes nothing.
use Prim.Native.Nat.{ℕ, ◌+◌, ◌-◌, ◌*◌, ◌≤◌, ◌<◌}
use native.Mathlib.Omega.{arith}
use mathlib.Core.Path.{◌≡◌, refl, sym, ◌∙◌, ap, ap₂}
use mathlib.Core.Logic.{inl}
use mathlib.Core.List.{List, [], ◌∷◌, ◌++◌}
use lib.ListN.{length, take, drop, take-append-drop, get_or-replicate}
use Rattle.sums.specs.Sums.{sum_to, hit}
use Rattle.sums.specs.Tables.{cell, tab, square}
use Rattle.sums.proofs.Cases.{by_eq}
use Rattle.sums.proofs.Sums.{sum_ext, sum_add}
use Rattle.sums.proofs.Tables.{take_cell, first_cells}
use Rattle.std.specs.Prelude.{Ok, Err}
use Rattle.star.specs.Refusals as verdict
use Rattle.star.specs.Refusals.{verdict_of}
use Rattle.star.specs.Tables.{Alike}
use Rattle.star.specs.Lines.{total, whole_frame, line_sum, on_line, source_on, destination_on, Admissible}
use Rattle.star.specs.Checks.{demand_short_verdict, demand_above_verdict}
use Rattle.star.specs.Schedules.{ConflictFree, count, refused_by}
use Rattle.star.proofs.RefusalLaws.{never}
use Rattle.star.proofs.AlikeLaws.{alike_cell, alike_above, both_long}
use Rattle.star.proofs.LineLaws.{total_ext}
use Rattle.fair.specs.Fair.{fair_kept, steps, step, uncut, taken, smaller, exceeds, numerator, modified_sum, unmodified_sum, modified, cut_line, cut_cell}
use Rattle.fair.proofs.Steps.{fair_admissible}
use Rattle.least.specs.Least.{kept_from}
use Rattle.least.proofs.Counts.{counts_admissible}
use Rattle.least.proofs.Keeping.{kept_admissible, refused_total}
use Rattle.least.proofs.LeastIsLeast.{least_is_least}
use Rattle.planner.specs.declared.answers.Report.{Report}
use Rattle.planner.specs.Plans.{Answer, report_of, Plan, PlanDone, PlanResult}
use Rattle.planner.specs.Theorems.{SoundPlan, LeastPlan, SamePlans, SameResults, SameAsNeeded, WrongPlanners, PlanTheorems}
use Rattle.planner.specs.Lent.{Lent, lent, LentRoom}
use Rattle.planner.specs.Checks.{plan_verdict}
use Rattle.planner.proofs.KeptLaws.{as_admissible}
use Rattle.planner.proofs.PlanLaws.{total_below, plan_below, whole_room, lent_fits, plan_accepts, plan_room}
use Rattle.planner.proofs.NeededLaws.{fair_ext, kept_ext, least_total}

-- ---- one plan
module _ {n l rule : ℕ} {cap d : List ℕ} {k : Lent} (known : rule ≤ 1) (p : Plan n l rule cap d k) where
  plan_admissible : Admissible n cap k.kept
  plan_admissible =
      by_eq rule 0
      (λ e. as_admissible n k.kept _ (p.fair e).0 (fair_admissible n cap d))
      (λ ne. as_admissible n k.kept _ (p.least (omega arith)).1 (kept_admissible (p.least (omega arith)).0))

  -- what the schedule refuses, and what it carries, make up the demand
  plan_honest : refused_by n l d k.schedule + total n k.kept ≡ total n d
  unfolding refused_by total
  plan_honest =
      sym (sum_add n (λ i. sum_to n (λ j. cell n d i j - count n l k.schedule i j)) (λ i. sum_to n (λ j. cell n k.kept i j)))
      ∙ sum_ext n _ _ (λ i hi.
      sym (sum_add n (λ j. cell n d i j - count n l k.schedule i j) (λ j. cell n k.kept i j))
      ∙ sum_ext n _ _ (λ j hj. omega (arith, p.carried.exact i j hi hj, plan_below known p i j hi hj)))

module _ {n l : ℕ} {cap d : List ℕ} {k k' : Lent} {f : Report} where
  pub plan_sound : {rule : ℕ} → rule ≤ 1 → PlanDone n l rule cap d k k' f → SoundPlan n l cap d k' f
  plan_sound known done =
      let p = done.wrote.plan in
      let g = done.figures in
      record {
        admissible = plan_admissible known p;
        below = plan_below known p;
        honest = omega (arith, plan_honest known p, g.refused_total);
        totals = omega (arith, g.kept_total, g.refused_total, total_below n d k'.kept (plan_below known p));
      }

  pub plan_least : PlanDone n l 1 cap d k k' f → LeastPlan n l cap d k' f
  plan_least done =
      let p = done.wrote.plan in
      let g = p.least refl in
      let refuses = done.figures.refused_total in
      let follows = total_ext n k'.kept (kept_from n cap d k'.withdrawn) (take_cell n k'.kept (kept_from n cap d k'.withdrawn) g.1) in
      record {
        smallest = λ s free fits. omega (arith, refuses, follows, least_is_least g.0 l s fits);
        by_excess = omega (arith, refuses, follows, refused_total g.0, total_below n d k'.kept (plan_below (omega arith) p));
      }

-- ---- two plans of demands that agree at each pair
module _ {n l rule : ℕ} {cap d e : List ℕ} {k₁ k₂ : Lent} (same : (i j : ℕ) → i < n → j < n → cell n d i j ≡ cell n e i j) (p : Plan n l rule cap d k₁) (q : Plan n l rule cap e k₂) where
  fair_same : rule ≡ 0 → (take (n * n) k₁.kept ≡ take (n * n) k₂.kept) × (take (n * n) k₁.withdrawn ≡ take (n * n) k₂.withdrawn)
  fair_same z = ((p.fair z).0 ∙ fair_ext n cap d e same ∙ sym (q.fair z).0, (p.fair z).1 ∙ sym (q.fair z).1)

  least_same : rule ≡ 1 → take (n * n) k₁.withdrawn ≡ take (n * n) k₂.withdrawn → take (n * n) k₁.kept ≡ take (n * n) k₂.kept
  least_same u alike = (p.least u).1 ∙ kept_ext n cap d e same k₁.withdrawn k₂.withdrawn (first_cells n k₁.withdrawn k₂.withdrawn alike) ∙ sym (q.least u).1

  kept_same : rule ≤ 1 → total n k₁.kept ≡ total n k₂.kept
  kept_same known =
      by_eq rule 0
      (λ z. total_ext n k₁.kept k₂.kept (first_cells n k₁.kept k₂.kept (fair_same z).0))
      (λ ne. let u : rule ≡ 1 = omega arith in least_total same (rw u at p) (rw u at q))

pub plan_same : {n l rule : ℕ} {cap d e : List ℕ} {k k₁ x k₂ : Lent} {f₁ f₂ : Report} → rule ≤ 1 → ((i j : ℕ) → i < n → j < n → cell n d i j ≡ cell n e i j) →
    PlanDone n l rule cap d k k₁ f₁ → PlanDone n l rule cap e x k₂ f₂ → SamePlans n rule k₁ k₂ f₁ f₂
plan_same {n} {d = d} {e = e} known same one other =
    let p = one.wrote.plan in
    let q = other.wrote.plan in
    let totals = kept_same same p q known in
    record {
      kept_totals = one.figures.kept_total ∙ totals ∙ sym other.figures.kept_total;
      refused_totals = one.figures.refused_total ∙ ap₂ ◌-◌ (total_ext n d e same) totals ∙ sym other.figures.refused_total;
      fair_cells = fair_same same p q;
      least_cells = least_same same p q;
    }

-- ---- one result
-- an accepted call has passed the check of its rule
known_rule : {n l rule : ℕ} {d : List ℕ} {k k' : Lent} (r : Answer) → PlanResult n l rule d k k' r → verdict_of r ≡ verdict.Accepted → rule ≤ 1
known_rule {n} {l} {rule} {d} {k} r result ok = (plan_room n l rule d k (sym result.answer ∙ ok)).known_rule

pub plan_accepted : {n l rule : ℕ} {d : List ℕ} {k k' : Lent} (r : Answer) → PlanResult n l rule d k k' r → verdict_of r ≡ verdict.Accepted → SoundPlan n l (whole_frame n l) d k' (report_of r)
plan_accepted r result ok = plan_sound (known_rule r result ok) (result.accepted ok)

-- each conflict-free schedule respects the whole frame
pub plan_smallest : {n l : ℕ} {d : List ℕ} {k k' : Lent} (r : Answer) → PlanResult n l 1 d k k' r → verdict_of r ≡ verdict.Accepted →
    (s : List ℕ) → ConflictFree n l s → (report_of r).refused ≤ refused_by n l d s
plan_smallest r result ok s free = (plan_least (result.accepted ok)).smallest s free (counts_admissible free)

pub plan_lengths : {n l rule : ℕ} {d : List ℕ} {k k' : Lent} (r : Answer) → PlanResult n l rule d k k' r →
    (length k'.kept ≡ length k.kept) × (length k'.withdrawn ≡ length k.withdrawn) × (length k'.schedule ≡ length k.schedule)
plan_lengths (Ok f) result = let w = (result.accepted refl).wrote in (w.kept_length, w.withdrawn_length, w.schedule_length)
plan_lengths (Err x) result = let same = result.refused x refl in (ap (λ t. length t.kept) same, ap (λ t. length t.withdrawn) same, ap (λ t. length t.schedule) same)

-- ---- two results
-- with the same verdict, on demands that agree at each pair
agreed : {n l rule : ℕ} {d e : List ℕ} {k k₁ x k₂ : Lent} (r₁ r₂ : Answer) → PlanResult n l rule d k k₁ r₁ → PlanResult n l rule e x k₂ r₂ →
    ((i j : ℕ) → i < n → j < n → cell n d i j ≡ cell n e i j) → verdict_of r₁ ≡ verdict_of r₂ → SameAsNeeded n rule k₁ k₂ r₁ r₂
agreed (Ok f) (Ok g) x₁ x₂ same verdicts =
    let plans = plan_same (known_rule (Ok f) x₁ refl) same (x₁.accepted refl) (x₂.accepted refl) in
    record { verdicts = verdicts; kept_totals = plans.kept_totals; refused_totals = plans.refused_totals; plans = λ _. plans }
agreed (Ok f) (Err z) x₁ x₂ same verdicts = absurd (never (sym verdicts))
agreed (Err y) (Ok g) x₁ x₂ same verdicts = absurd (never verdicts)
agreed (Err y) (Err z) x₁ x₂ same verdicts = record { verdicts = verdicts; kept_totals = refl; refused_totals = refl; plans = λ ok. absurd (never ok) }

-- lists that agree in their first cells and in the further ones are one
glue : (m : ℕ) (x y : List ℕ) → take m x ≡ take m y → drop m x ≡ drop m y → x ≡ y
glue m x y e f = sym (take-append-drop m x) ∙ ap₂ ◌++◌ e f ∙ take-append-drop m y

pub plan_unique : {n l rule : ℕ} {d : List ℕ} {k k₁ k₂ : Lent} (r₁ r₂ : Answer) → PlanResult n l rule d k k₁ r₁ → PlanResult n l rule d k k₂ r₂ → SameResults rule k₁ k₂ r₁ r₂
plan_unique {n} {k₁ = k₁} {k₂ = k₂} r₁ r₂ x₁ x₂ =
    let verdicts = x₁.answer ∙ sym x₂.answer in
    let g = agreed r₁ r₂ x₁ x₂ (λ i j hi hj. refl) verdicts in
    let kept : verdict_of r₁ ≡ verdict.Accepted → take (n * n) k₁.kept ≡ take (n * n) k₂.kept → k₁.kept ≡ k₂.kept
    = λ ok first. glue (n * n) k₁.kept k₂.kept first ((x₁.accepted ok).wrote.kept_rest ∙ sym (x₂.accepted (sym verdicts ∙ ok)).wrote.kept_rest) in
    record {
      verdicts = verdicts;
      kept_totals = g.kept_totals;
      refused_totals = g.refused_totals;
      refused_cells = λ q e. x₁.refused q e ∙ sym (x₂.refused q (sym verdicts ∙ e));
      fair_cells = λ ok z.
          let first = (g.plans ok).fair_cells z in (
            kept ok first.0,
            glue (n * n) k₁.withdrawn k₂.withdrawn first.1 ((x₁.accepted ok).wrote.withdrawn_rest ∙ sym (x₂.accepted (sym verdicts ∙ ok)).wrote.withdrawn_rest),
          );
      least_cells = λ ok u same. kept ok ((g.plans ok).least_cells u (ap (take (n * n)) same));
    }

alike_verdict : (n l rule : ℕ) (d e : List ℕ) (k x : Lent) → Alike (n * n) d e → LentRoom n l k → LentRoom n l x →
    plan_verdict n l rule d (length k.kept) (length k.withdrawn) (length k.schedule) ≡ plan_verdict n l rule e (length x.kept) (length x.withdrawn) (length x.schedule)
unfolding plan_verdict demand_short_verdict demand_above_verdict
alike_verdict n l rule d e k x same one other =
    rw (both_long same.first_room same.second_room, ← (lent_fits one), ← (lent_fits other), alike_above n same) refl

pub plan_needed : {n l rule : ℕ} {d e : List ℕ} {k k₁ x k₂ : Lent} (r₁ r₂ : Answer) → PlanResult n l rule d k k₁ r₁ → PlanResult n l rule e x k₂ r₂ →
    Alike (n * n) d e → LentRoom n l k → LentRoom n l x → SameAsNeeded n rule k₁ k₂ r₁ r₂
plan_needed {n} {l} {rule} {d} {e} {k} {x = x} r₁ r₂ x₁ x₂ same one other =
    agreed r₁ r₂ x₁ x₂ (alike_cell n same) (x₁.answer ∙ alike_verdict n l rule d e k x same one other ∙ sym x₂.answer)

-- ---- the wrong planners
-- one slot for one node: a demand of at most 1 is accepted ..
one_accepted : (rule y : ℕ) (k : Lent) → rule ≤ 1 → y ≤ 1 → LentRoom 1 1 k → verdict.Accepted ≡ plan_verdict 1 1 rule (y ∷ []) (length k.kept) (length k.withdrawn) (length k.schedule)
one_accepted rule y k known small room =
    plan_accepts
    (whole_room
    (record { some_nodes = omega arith; nodes = omega arith; some_slots = omega arith; slots = omega arith })
    known
    (omega arith)
    (record { most = λ p lt. let e : p ≡ 0 = omega arith in rw e (omega arith) })
    room)

-- .. the schedule that names source 0 in its slot has no conflict and refuses nothing of it ..
one_slot : ConflictFree 1 1 (0 ∷ [])
unfolding cell
one_slot = record {
  heard = λ k j p q. inl (omega (arith, get_or-replicate {A = ℕ} 1 (k * 1 + j) 0 0 (omega arith)));
  once = λ k j v p q r h e. omega arith;
}

one_served : refused_by 1 1 (1 ∷ []) (0 ∷ []) ≡ 0
unfolding refused_by count sum_to hit cell
one_served = refl

-- .. and so it is kept, under both rules
one_fair : cell 1 (fair_kept 1 (whole_frame 1 1) (1 ∷ [])) 0 0 ≡ 1
unfolding fair_kept steps step uncut taken smaller exceeds numerator modified_sum unmodified_sum modified cut_line cut_cell whole_frame line_sum on_line source_on destination_on sum_to cell tab square
one_fair = refl

one_cell : (k : List ℕ) → total 1 k ≡ cell 1 k 0 0
unfolding total sum_to
one_cell k = omega arith

one_asked : cell 1 (1 ∷ []) 0 0 ≡ 1
unfolding cell
one_asked = refl

one_kept : (rule : ℕ) (k k' : Lent) (r : Answer) → rule ≤ 1 → PlanResult 1 1 rule (1 ∷ []) k k' r → verdict_of r ≡ verdict.Accepted → cell 1 k'.kept 0 0 ≡ 1
one_kept rule k k' r known result ok =
    by_eq rule 0
    (λ e. take_cell 1 k'.kept (fair_kept 1 (whole_frame 1 1) (1 ∷ [])) ((result.accepted ok).wrote.plan.fair e).0 0 0 (omega arith) (omega arith) ∙ one_fair)
    (λ ne.
    let e : rule ≡ 1 = omega arith in
    let least : PlanResult 1 1 1 (1 ∷ []) k k' r = rw e at result in
    omega (
      arith,
      (plan_accepted r least ok).totals,
      plan_smallest r least ok (0 ∷ []) one_slot,
      one_served,
      (least.accepted ok).figures.kept_total,
      one_cell k'.kept,
      one_cell (1 ∷ []),
      one_asked,
    ))

never_heard : count 1 1 (255 ∷ []) 0 0 ≡ 0
unfolding count sum_to hit cell
never_heard = refl

never_asked : cell 1 (0 ∷ []) 0 0 ≡ 0
unfolding cell
never_asked = refl

pub wrong_planners : WrongPlanners
wrong_planners = record {
  refuses_everything = λ n l rule d k k' x e result. never (result.answer ∙ e);
  untouched_schedule = λ rule k a k' a' r known hk ha result.
      let before = lent k a (255 ∷ []) in
      let ok = result.answer ∙ sym (one_accepted rule 1 before known (omega arith) (record { kept = hk; withdrawn = ha; schedule = omega arith })) in
      omega (
        arith,
        one_kept rule before (lent k' a' (255 ∷ [])) r known result ok,
        (result.accepted ok).wrote.plan.carried.exact 0 0 (omega arith) (omega arith),
        never_heard,
      );
  fixed_plan = λ rule k k' r known room one none.
      let ok = one.answer ∙ sym (one_accepted rule 1 k known (omega arith) room) in
      omega (
        arith,
        one_kept rule k k' r known one ok,
        (plan_accepted r none ok).below 0 0 (omega arith) (omega arith),
        never_asked,
      );
}

-- all of it
pub plan_theorems : PlanTheorems
plan_theorems = record {
  sound = λ n l rule cap d k k' f. plan_sound;
  least = λ n l cap d k k' f. plan_least;
  same = λ n l rule cap d e k k₁ x k₂ f₁ f₂. plan_same;
  accepts = λ n l rule d k k' r result sizes known demand tables most. result.answer ∙ sym (plan_accepts (whole_room sizes known demand (record { most = most }) tables));
  accepted = λ n l rule d k k'. plan_accepted;
  smallest = λ n l d k k'. plan_smallest;
  unique = λ n l rule d k k₁ k₂. plan_unique;
  needed = λ n l rule d e k k₁ x k₂. plan_needed;
  lengths = λ n l rule d k k'. plan_lengths;
  wrong = wrong_planners;
}
