-- A plan of a demand; the entry `plan`: which refusal it gives, in which order, what it reports, and what its tables then hold.
use Rattle.std.specs.Prelude.{ℕ, ◌-◌, ◌*◌, ◌≡◌, List, length, take, drop, replicate, Result, Ok, Err}
use Rattle.star.specs.declared.refusals.Refusal.{Refusal}
use Rattle.star.specs.Refusals.{verdict_of, Notice, accepted, check, Promise, nodes_out, slots_out, rule_out, short, some_cell, first_above}
use Rattle.star.specs.Lines.{total, whole_frame}
use Rattle.star.specs.Schedules.{Carries, reconfigurations}
use Rattle.fair.specs.Fair.{fair_kept}
use Rattle.least.specs.Least.{Greatest, kept_from}
use Rattle.planner.specs.declared.answers.Report.{Report}
use Rattle.planner.specs.Lent.{Lent, lent, lent_short}
use Rattle.planner.specs.Checks.{plan_verdict}

-- The report of an accepted call, or its refusal. The number and the place of an answer are those of its verdict.
abbrev pub Answer : Type 0
Answer = Result Report Refusal

abbrev pub Planned : Report → Answer
Planned f = Ok f

abbrev pub Refused : Refusal → Answer
Refused r = Err r

-- Only plan and frame report the two totals and the reconfigurations; a refusal's are zero.
abbrev pub report_of : Answer → Report
report_of (Ok f) = f
report_of (Err r) = record { kept = 0; refused = 0; reconfigurations = 0 }

-- Plan 1 to 6, in document 01's numbers and each with its place: N, L, the rule, the demand, and how many cells each table has that is to be written.
unfoldable pub plan_notice : (n l rule : ℕ) (d : List ℕ) (kept withdrawn schedule : ℕ) → Notice
plan_notice n l rule d kept withdrawn schedule =
    check (nodes_out n) 1 0
    (check (slots_out l) 2 0
    (check (rule_out rule) 3 0
    (check (short (length d) (n * n)) 4 0
    (check (lent_short n l kept withdrawn schedule) 5 0
    (check (some_cell (n * n) (first_above n d)) 6 (first_above n d)
    accepted)))))

-- A plan of D with the given capacities: what the first cells of its three tables are. Under rule 0 the withdrawn table is filled with
-- zeros; under rule 1 it is any greatest withdrawn matrix, and kept follows from it. Which slots a pair gets is free.
pub record Plan (n l rule : ℕ) (cap d : List ℕ) (k : Lent) : Type 0 where
  pub fair : rule ≡ 0 → (take (n * n) k.kept ≡ fair_kept n cap d) × (take (n * n) k.withdrawn ≡ replicate (n * n) 0)
  pub least : rule ≡ 1 → (Greatest n cap d k.withdrawn) × (take (n * n) k.kept ≡ kept_from n cap d k.withdrawn)
  pub carried : Carries n l k.schedule k.kept

-- The three tables hold a plan, are as long as before, and their further cells are as before.
pub record Wrote (n l rule : ℕ) (cap d : List ℕ) (k k' : Lent) : Type 0 where
  pub plan : Plan n l rule cap d k'
  pub kept_length : length k'.kept ≡ length k.kept
  pub withdrawn_length : length k'.withdrawn ≡ length k.withdrawn
  pub schedule_length : length k'.schedule ≡ length k.schedule
  pub kept_rest : drop (n * n) k'.kept ≡ drop (n * n) k.kept
  pub withdrawn_rest : drop (n * n) k'.withdrawn ≡ drop (n * n) k.withdrawn
  pub schedule_rest : drop (l * n) k'.schedule ≡ drop (l * n) k.schedule

-- Reported are the kept total, the refused total (D's total minus the kept total) and the reconfigurations.
pub record Figures (n l : ℕ) (d : List ℕ) (k : Lent) (f : Report) : Type 0 where
  pub kept_total : f.kept ≡ total n k.kept
  pub refused_total : f.refused ≡ total n d - total n k.kept
  pub reconfigured : f.reconfigurations ≡ reconfigurations n l k.schedule

-- an accepted plan: its tables, and its report
pub record PlanDone (n l rule : ℕ) (cap d : List ℕ) (k k' : Lent) (f : Report) : Type 0 where
  pub wrote : Wrote n l rule cap d k k'
  pub figures : Figures n l d k' f

-- What `plan` promises for every input, each line with the whole frame. A refusal writes nothing.
abbrev pub PlanResult : (n l rule : ℕ) (d : List ℕ) (k k' : Lent) (r : Answer) → Type 0
PlanResult n l rule d k k' r =
    Promise (verdict_of r) (plan_verdict n l rule d (length k.kept) (length k.withdrawn) (length k.schedule))
    (plan_notice n l rule d (length k.kept) (length k.withdrawn) (length k.schedule))
    k k' (PlanDone n l rule (whole_frame n l) d k k' (report_of r))

-- the same over the lent tables one by one
abbrev pub PlanOn : (n l rule : ℕ) (d kept withdrawn schedule kept' withdrawn' schedule' : List ℕ) (r : Answer) → Type 0
PlanOn n l rule d kept withdrawn schedule kept' withdrawn' schedule' r = PlanResult n l rule d (lent kept withdrawn schedule) (lent kept' withdrawn' schedule') r
