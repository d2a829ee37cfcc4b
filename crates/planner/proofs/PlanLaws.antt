-- What is admissible fits the whole frame, and no pair keeps more than it asks. And the checks of a plan. Assumes nothing.
use Prim.Native.Nat.{ℕ, ◌*◌, ◌/◌, ◌%◌, ◌≤◌, ◌<◌}
use native.Mathlib.Omega.{arith}
use mathlib.Core.Path.{◌≡◌, refl}
use mathlib.Core.List.{List}
use lib.ListN.{length, get_or}
use borrow.Author.Tests.{ltb-false, le-ltb}
use Rattle.sums.specs.Tables.{cell}
use Rattle.sums.proofs.Sums.{sum_mono}
use Rattle.sums.proofs.Cases.{by_eq}
use Rattle.sums.proofs.Tables.{place_split, at_place}
use Rattle.star.specs.Refusals.{Accepted, notice_of, Sizes}
use Rattle.star.specs.Tables.{Demands}
use Rattle.star.specs.Lines.{total, whole_frame, Admissible}
use Rattle.star.specs.Checks.{sizes_verdict, rule_verdict, demand_short_verdict, demand_above_verdict, then}
use Rattle.star.proofs.RefusalLaws.{passes, in_numbers, passed, then_goes, then_passed, group_in_numbers, neither, neither_of, sizes_fit, sized, rule_fits, ruled, demand_fits, long_demand, demand_within, within}
use Rattle.star.proofs.LineLaws.{capacity, whole_frame_fits}
use Rattle.fair.proofs.Steps.{fair_below}
use Rattle.least.proofs.Keeping.{kept_below}
use Rattle.planner.specs.Plans.{plan_notice, Plan}
use Rattle.planner.specs.Work.{PlanRoom}
use Rattle.planner.specs.Lent.{Lent, LentRoom}
use Rattle.planner.specs.Checks.{lent_short_verdict, plan_verdict}
use Rattle.planner.proofs.KeptLaws.{as_below}

-- a matrix that is at most another at each pair has at most its total
pub total_below : (n : ℕ) (d k : List ℕ) → ((i j : ℕ) → i < n → j < n → cell n k i j ≤ cell n d i j) → total n k ≤ total n d
unfolding total
total_below n d k below = sum_mono n _ _ (λ i p. sum_mono n _ _ (λ j q. below i j p q))

module _ {n l rule : ℕ} {cap d : List ℕ} {k : Lent} (room : PlanRoom n l rule cap d k) where
  -- no capacity is above L, so what is admissible fits the whole frame
  pub fits_frame : (x : List ℕ) → Admissible n cap x → Admissible n (whole_frame n l) x
  fits_frame x h = record { lines = λ ℓ p. omega (arith, h.lines ℓ p, room.most ℓ p, capacity n l ℓ p) }

-- no pair keeps more than it asks
pub plan_below : {n l rule : ℕ} {cap d : List ℕ} {k : Lent} → rule ≤ 1 → Plan n l rule cap d k → (i j : ℕ) → i < n → j < n → cell n k.kept i j ≤ cell n d i j
plan_below {n} {l} {rule} {cap} {d} {k} known p =
    by_eq rule 0
    (λ e. as_below n k.kept _ (p.fair e).0 d (fair_below n cap d))
    (λ ne. as_below n k.kept _ (p.least (omega arith)).1 d (kept_below n cap d k.withdrawn))

-- the same, place by place
pub plan_below_at : {n l rule : ℕ} {cap d : List ℕ} {k : Lent} → rule ≤ 1 → Plan n l rule cap d k → (q : ℕ) → q < n * n → get_or k.kept q 0 ≤ get_or d q 0
plan_below_at {n} {d = d} {k = k} known p q lt = let s = place_split n q lt in
    omega (arith, at_place n k.kept q lt, at_place n d q lt, plan_below known p (q / n) (q % n) s.0 s.1.0)

-- ---- the checks
-- what the work asks where each line may fill the frame
pub whole_room : {n l rule : ℕ} {d : List ℕ} {k : Lent} → Sizes n l → rule ≤ 1 → n * n ≤ length d → Demands n d → LentRoom n l k → PlanRoom n l rule (whole_frame n l) d k
whole_room {n} {l} sizes known demand most tables = record {
  sizes = sizes;
  known_rule = known;
  demand = demand;
  within = most;
  lines = (whole_frame_fits n l sizes.slots).lines;
  most = λ ℓ p. omega (arith, capacity n l ℓ p);
  tables = tables;
}

-- the chain of refusals in numbers
pub plan_notice_lem : (n l rule : ℕ) (d : List ℕ) (kept withdrawn schedule : ℕ) → notice_of (plan_verdict n l rule d kept withdrawn schedule) ≡ plan_notice n l rule d kept withdrawn schedule
unfolding plan_verdict plan_notice sizes_verdict rule_verdict demand_short_verdict lent_short_verdict demand_above_verdict then
plan_notice_lem n l rule d kept withdrawn schedule =
    group_in_numbers _ _ _ _ (group_in_numbers _ _ _ _ (group_in_numbers _ _ _ _ (group_in_numbers _ _ _ _ (group_in_numbers _ _ _ _ (in_numbers _ _ _ refl)))))

-- tables that are long enough pass ..
pub lent_fits : {n l : ℕ} {k : Lent} → LentRoom n l k → Accepted ≡ lent_short_verdict n l (length k.kept) (length k.withdrawn) (length k.schedule)
unfolding lent_short_verdict
lent_fits room = passes _ (neither _ _ (neither _ _ (le-ltb _ _ room.kept) (le-ltb _ _ room.withdrawn)) (le-ltb _ _ room.schedule)) refl

-- .. and what has passed is long enough
pub long_lent : (n l : ℕ) (k : Lent) → lent_short_verdict n l (length k.kept) (length k.withdrawn) (length k.schedule) ≡ Accepted → LentRoom n l k
unfolding lent_short_verdict
long_lent n l k e =
    let a = neither_of _ _ (passed _ _ _ e).0 in
    let b = neither_of _ _ a.0 in
    record { kept = ltb-false _ _ b.0; withdrawn = ltb-false _ _ b.1; schedule = ltb-false _ _ a.1 }

-- a plan that has its room is accepted ..
pub plan_accepts : {n l rule : ℕ} {cap d : List ℕ} {k : Lent} → PlanRoom n l rule cap d k → Accepted ≡ plan_verdict n l rule d (length k.kept) (length k.withdrawn) (length k.schedule)
unfolding plan_verdict
plan_accepts {n} {l} {rule} {d = d} room =
    then_goes (sizes_fit n l room.sizes) refl
    (then_goes (rule_fits rule room.known_rule) refl
    (then_goes (demand_fits n (length d) room.demand) refl
    (then_goes (lent_fits room.tables) refl
    (demand_within n d room.within))))

-- .. and one that is accepted has it
pub plan_room : (n l rule : ℕ) (d : List ℕ) (k : Lent) → plan_verdict n l rule d (length k.kept) (length k.withdrawn) (length k.schedule) ≡ Accepted → PlanRoom n l rule (whole_frame n l) d k
unfolding plan_verdict
plan_room n l rule d k e =
    let a = then_passed _ _ e in
    let b = then_passed _ _ a.1 in
    let c = then_passed _ _ b.1 in
    let t = then_passed _ _ c.1 in
    whole_room (sized n l a.0) (ruled rule b.0) (long_demand n (length d) c.0) (within n d t.1) (long_lent n l k t.0)
