-- An exported entry reports its answer as numbers.
use Rattle.std.specs.Prelude.{ℕ, ◌≡◌, List, [], ◌∷◌}
use Rattle.star.specs.Refusals.{Verdict, verdict_of, verdict_number, verdict_place}
use Rattle.planner.specs.Plans.{Answer, report_of}
use Rattle.files.specs.Output.{Output, output_verdict, output_length}

-- the number and the place are those of a verdict with which the entry keeps its promise
pub record Reported (promise : Verdict → Type 0) (number place : ℕ) : Type 0 where
  pub verdict : Verdict
  pub kept : promise verdict
  pub its_number : number ≡ verdict_number verdict
  pub its_place : place ≡ verdict_place verdict

-- what a plan or a frame reports beside its number: the place, the two totals and the reconfigurations
abbrev pub plan_report : Answer → List ℕ
plan_report answer = verdict_place (verdict_of answer) ∷ (report_of answer).kept ∷ (report_of answer).refused ∷ (report_of answer).reconfigurations ∷ []

-- what a call reports beside its number that writes bytes: the place, and how many it wrote
abbrev pub output_report : Output → List ℕ
output_report answer = verdict_place (output_verdict answer) ∷ output_length answer ∷ []

-- the number and the report are those of an answer with which the entry keeps its promise
pub record ReportedBy {A : Type 0} (verdictFrom : A → Verdict) (reportFrom : A → List ℕ) (promise : A → Type 0) (number : ℕ) (report : List ℕ) : Type 0 where
  pub answer : A
  pub kept : promise answer
  pub its_number : number ≡ verdict_number (verdictFrom answer)
  pub its_report : report ≡ reportFrom answer

abbrev pub ReportedPlan : (promise : Answer → Type 0) (number : ℕ) (report : List ℕ) → Type 0
ReportedPlan promise number report = ReportedBy verdict_of plan_report promise number report

abbrev pub ReportedOutput : (promise : Output → Type 0) (number : ℕ) (report : List ℕ) → Type 0
ReportedOutput promise number report = ReportedBy output_verdict output_report promise number report
