-- Which refusal a plan gives, in document 01's numbers: each check by itself, and with the next one in the order; and what an answer reports. By
-- computation. Assumes nothing.
use Prim.Native.Nat.{ℕ}
use mathlib.Core.Path.{◌≡◌, refl}
use mathlib.Core.List.{List, [], ◌∷◌}
use Rattle.sums.specs.Searches.{first_below, first_from}
use Rattle.star.specs.declared.refusals.Refusal.TheVariants.{TableShort, DemandAbove}
use Rattle.star.specs.Refusals as verdict
use Rattle.star.specs.Refusals.{verdict_of, Notice, notice, notice_of, first_above}
use Rattle.star.specs.Checks.{sizes_verdict, rule_verdict, demand_short_verdict, demand_above_verdict, refuse, then}
use Rattle.planner.specs.declared.answers.Report.{Report}
use Rattle.planner.specs.Plans.{Planned, Refused, report_of}
use Rattle.planner.specs.Checks.{lent_short_verdict, plan_verdict}

-- given how many cells kept, withdrawn and schedule have
abbrev plan : (n l rule : ℕ) (d : List ℕ) (kept withdrawn schedule : ℕ) → Notice
plan n l rule d kept withdrawn schedule = notice_of (plan_verdict n l rule d kept withdrawn schedule)

-- Plan 1 to 6.
pub record PlanGives : Type 0 where
  -- case o: N 0 and L 0 together: 1. N 65: 1. L 1,025: 2. Demand 65,536 with a short kept table: 5.
  pub nodes : plan 0 0 1 (1 ∷ []) 1 1 4 ≡ notice 1 0
  pub many_nodes : plan 65 4 1 (1 ∷ []) 1 1 4 ≡ notice 1 0
  pub slots : plan 1 1025 2 (1 ∷ []) 1 1 4 ≡ notice 2 0
  pub rule : plan 1 4 2 [] 1 1 4 ≡ notice 3 0
  pub demand : plan 1 4 1 [] 0 1 4 ≡ notice 4 0
  pub short_kept : plan 1 4 1 (65536 ∷ []) 0 1 4 ≡ notice 5 0
  pub short_withdrawn : plan 1 4 1 (65536 ∷ []) 1 0 4 ≡ notice 5 0
  pub short_schedule : plan 1 4 1 (65536 ∷ []) 1 1 3 ≡ notice 5 0
  pub above : plan 2 4 1 (65535 ∷ 65536 ∷ 0 ∷ 65536 ∷ []) 4 4 8 ≡ notice 6 1
  pub lowest : plan 1 1 0 (65535 ∷ []) 1 1 1 ≡ notice 0 0
  -- A longer table is accepted; its extra cells are not read.
  pub longer : plan 1 1024 1 (65535 ∷ 70000 ∷ []) 2 2 1025 ≡ notice 0 0

plan_gives : PlanGives
unfolding plan_verdict then sizes_verdict rule_verdict demand_short_verdict lent_short_verdict demand_above_verdict refuse first_above first_below first_from
plan_gives = record {
  nodes = refl;
  many_nodes = refl;
  slots = refl;
  rule = refl;
  demand = refl;
  short_kept = refl;
  short_withdrawn = refl;
  short_schedule = refl;
  above = refl;
  lowest = refl;
  longer = refl;
}

-- Three nodes and two slots: 9, 9 and 6 cells are enough, one less of any is not; so for 64 nodes and 1,024 slots.
pub record LentGives : Type 0 where
  pub enough : lent_short_verdict 3 2 9 9 6 ≡ verdict.Accepted
  pub kept : lent_short_verdict 3 2 8 9 6 ≡ verdict.Refused TableShort
  pub withdrawn : lent_short_verdict 3 2 9 8 6 ≡ verdict.Refused TableShort
  pub schedule : lent_short_verdict 3 2 9 9 5 ≡ verdict.Refused TableShort
  pub most : lent_short_verdict 64 1024 4096 4096 65536 ≡ verdict.Accepted
  pub one_less : lent_short_verdict 64 1024 4096 4096 65535 ≡ verdict.Refused TableShort

lent_gives : LentGives
unfolding lent_short_verdict refuse
lent_gives = record { enough = refl; kept = refl; withdrawn = refl; schedule = refl; most = refl; one_less = refl }

abbrev figures : (kept refused reconfigurations : ℕ) → Report
figures kept refused reconfigurations = record { kept = kept; refused = refused; reconfigurations = reconfigurations }

-- A refusal's totals and reconfigurations are zero.
pub record Reports : Type 0 where
  pub planned : report_of (Planned (figures 7 8 9)) ≡ figures 7 8 9
  pub accepted : notice_of (verdict_of (Planned (figures 7 8 9))) ≡ notice 0 0
  pub nothing : report_of (Refused (DemandAbove 3)) ≡ figures 0 0 0
  pub its_cell : notice_of (verdict_of (Refused (DemandAbove 3))) ≡ notice 6 3

reports : Reports
reports = record { planned = refl; accepted = refl; nothing = refl; its_cell = refl }
