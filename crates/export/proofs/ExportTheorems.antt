-- The theorems on the exported entries: what is reported is read off a verdict or an answer that keeps the entry's promise, so that the entries' own
-- theorems speak of it. Assumes nothing.
use Prim.Native.Nat.{ℕ}
use native.Mathlib.Omega.{arith}
use mathlib.Core.Path.{◌≡◌, refl, sym, ◌∙◌, ap, ap₂, subst}
use mathlib.Core.List.{List}
use lib.IntN.{ℤ}
use lib.ListN.{get_or, take}
use Rattle.star.specs.declared.refusals.Refusal.{Refusal}
use Rattle.star.specs.declared.refusals.Refusal.TheVariants.{Nodes, Slots, Rule, DemandShort, TableShort, DemandAbove, QueueLimit, BooksDisagree, CallsSpent, BadFile}
use Rattle.std.specs.Prelude.{Ok, Err}
use Rattle.star.specs.Refusals.{Verdict, verdict_of, refusal_number, notice, notice_of, verdict_number, verdict_place}
use Rattle.star.proofs.RefusalLaws.{never}
use Rattle.pieces.proofs.PieceLaws.{answered_same}
use Rattle.slacks.proofs.SlacksTheorems.{slacks_theorems}
use Rattle.planner.specs.Plans.{Answer, report_of}
use Rattle.planner.specs.Lent.{Lent}
use Rattle.planner.proofs.PlanTheorems.{plan_theorems}
use Rattle.calls.specs.Held.{Held}
use Rattle.run.proofs.CallLaws.{fresh_theorems, post_theorems}
use Rattle.run.proofs.FrameLaws.{frame_theorems}
use Rattle.files.specs.Output.{Output, Bytes, output_verdict, output_length}
use Rattle.files.specs.Format.{rule_of}
use Rattle.file_writer.specs.Theorems.{ReadsBack}
use Rattle.file_writer.specs.Writing.{WriteResult}
use Rattle.file_writer.proofs.WriteTheorems.{write_theorems}
use Rattle.scenario_text.specs.Outcomes.{PrintResult}
use Rattle.scenario_text.proofs.PrintTheorems.{print_theorems}
use Rattle.export.specs.Reports.{Reported, ReportedBy, ReportedPlan, output_report, ReportedOutput}
use Rattle.export.specs.Theorems.{SlacksExported, PlanExported, FreshExported, PostExported, FrameExported, WriteExported, PlayExported, ExportTheorems}

-- number and place are those of the verdict, and of the answer
module _ {promise : Verdict → Type 0} {r p : ℕ} (x : Reported promise r p) where
  reported : notice r p ≡ notice_of x.verdict
  reported = ap₂ notice x.its_number x.its_place

-- a report begins with the place
reported_by : {A : Type 0} {verdictFrom : A → Verdict} {reportFrom : A → List ℕ} {promise : A → Type 0} {r : ℕ} {report : List ℕ} (x : ReportedBy verdictFrom reportFrom promise r report) →
    ((a : A) → get_or (reportFrom a) 0 0 ≡ verdict_place (verdictFrom a)) → notice r (get_or report 0 0) ≡ notice_of (verdictFrom x.answer)
reported_by x place-first = ap₂ notice x.its_number (ap (λ t. get_or t 0 0) x.its_report ∙ place-first x.answer)

reported_plan : {promise : Answer → Type 0} {r : ℕ} {report : List ℕ} (x : ReportedPlan promise r report) → notice r (get_or report 0 0) ≡ notice_of (verdict_of x.answer)
reported_plan x = reported_by x (λ a. refl)

reported_output : {promise : Output → Type 0} {r : ℕ} {report : List ℕ} (x : ReportedOutput promise r report) → notice r (get_or report 0 0) ≡ notice_of (output_verdict x.answer)
reported_output x = reported_by x (λ a. refl)

-- where two verdicts are one, so are number and place; and the totals of answers
same_number : {one other : Verdict → Type 0} {r₁ p₁ r₂ p₂ : ℕ} (x : Reported one r₁ p₁) (y : Reported other r₂ p₂) → x.verdict ≡ y.verdict → (r₁ ≡ r₂) × (p₁ ≡ p₂)
same_number x y e = (x.its_number ∙ ap verdict_number e ∙ sym y.its_number, x.its_place ∙ ap verdict_place e ∙ sym y.its_place)

same_report : {one other : Answer → Type 0} {r₁ r₂ : ℕ} {report₁ report₂ : List ℕ} (x : ReportedPlan one r₁ report₁) (y : ReportedPlan other r₂ report₂) →
    verdict_of x.answer ≡ verdict_of y.answer → (report_of x.answer).kept ≡ (report_of y.answer).kept → (report_of x.answer).refused ≡ (report_of y.answer).refused →
    (r₁ ≡ r₂) × (take 3 report₁ ≡ take 3 report₂)
same_report {report₁ = report₁} {report₂ = report₂} x y v k f =
    (x.its_number ∙ ap verdict_number v ∙ sym y.its_number, ap (take 3) x.its_report ∙ rw (ap verdict_place v, k, f) refl ∙ sym (ap (take 3) y.its_report))

slacks_exported : (n l : ℕ) (d : List ℕ) (table : List ℤ) → SlacksExported n l d table
slacks_exported n l d table = record {
  numbers = λ table' r p x. reported x ∙ x.kept.notice;
  unique = λ table₁ table₂ r₁ p₁ r₂ p₂ x y.
      let one = slacks_theorems.unique n l d table table₁ table₂ x.verdict y.verdict x.kept y.kept in
      let same = same_number x y one.0 in
      (same.0, same.1, one.1);
}

plan_exported : (n l rule : ℕ) (d : List ℕ) (k : Lent) → PlanExported n l rule d k
plan_exported n l rule d k = record {
  numbers = λ k' r report x. reported_plan x ∙ x.kept.notice;
  unique = λ k₁ k₂ r₁ r₂ report₁ report₂ x y.
      let one = plan_theorems.unique n l rule d k k₁ k₂ x.answer y.answer x.kept y.kept in
      let same = same_report x y one.verdicts one.kept_totals one.refused_totals in
      (same.0, same.1, one);
}

fresh_exported : (n l limit rule : ℕ) (h : Held) → FreshExported n l limit rule h
fresh_exported n l limit rule h = record {
  numbers = λ h' r place x. reported x ∙ x.kept.notice;
  unique = λ h₁ h₂ r₁ place₁ r₂ place₂ x y.
      let one = fresh_theorems.unique n l limit rule h h₁ h₂ x.verdict y.verdict x.kept y.kept in
      let same = same_number x y one.0 in
      (same.0, same.1, one.1);
}

post_exported : (arrivals : List ℕ) (h : Held) → PostExported arrivals h
post_exported arrivals h = record {
  numbers = λ h' r place x. reported x ∙ x.kept.notice;
  unique = λ h₁ h₂ r₁ place₁ r₂ place₂ x y.
      let one = post_theorems.unique arrivals h h₁ h₂ x.verdict y.verdict x.kept y.kept in
      let same = same_number x y one.0 in
      (same.0, same.1, one.1);
}

frame_exported : (k : Lent) (h : Held) → FrameExported k h
frame_exported k h = record {
  numbers = λ k' h' r report x. reported_plan x ∙ x.kept.notice;
  unique = λ k₁ k₂ h₁ h₂ r₁ r₂ report₁ report₂ x y.
      let one = frame_theorems.unique k k₁ k₂ h h₁ h₂ x.answer y.answer x.kept y.kept in
      let same = same_report x y one.plans.verdicts one.plans.kept_totals one.plans.refused_totals in
      (same.0, same.1, one);
}

-- ---- scenario files
-- no refusal has number 0
numbered : (x : Refusal) → refusal_number x ≡ 0 → ⊥
numbered Nodes e = omega arith
numbered Slots e = omega arith
numbered Rule e = omega arith
numbered DemandShort e = omega arith
numbered TableShort e = omega arith
numbered (DemandAbove c) e = omega arith
numbered QueueLimit e = omega arith
numbered (BooksDisagree c) e = omega arith
numbered CallsSpent e = omega arith
numbered (BadFile k) e = omega arith

-- where two answers are one, so are number and report
same_output : {one other : Output → Type 0} {r₁ r₂ : ℕ} {report₁ report₂ : List ℕ} (x : ReportedOutput one r₁ report₁) (y : ReportedOutput other r₂ report₂) → x.answer ≡ y.answer →
    (r₁ ≡ r₂) × (report₁ ≡ report₂)
same_output x y e = (x.its_number ∙ ap (λ f. verdict_number (output_verdict f)) e ∙ sym y.its_number, x.its_report ∙ ap output_report e ∙ sym y.its_report)

module _ (n l limit rule : ℕ) (kinds cells out : List ℕ) where
  written_back : (out' : List ℕ) (f : Output) → WriteResult n l limit rule kinds cells out out' f → verdict_number (output_verdict f) ≡ 0 → ReadsBack n l limit rule kinds cells (take (output_length f) out')
  written_back out' (Ok size) w e = write_theorems.back n l limit rule kinds cells out out' size w
  written_back out' (Err x) w e = absurd (numbered x e)

  write_exported : WriteExported n l limit rule kinds cells out
  write_exported = record {
    numbers = λ out' r report x. reported_output x ∙ x.kept.notice;
    unique = λ out₁ out₂ r₁ r₂ report₁ report₂ x y.
        let one = write_theorems.unique n l limit rule kinds cells out out₁ out₂ x.answer y.answer x.kept y.kept in
        let same = same_output x y one.0 in
        (same.0, same.1, one.1);
    back = λ out' r report x zero.
        subst (λ k. ReadsBack n l limit rule kinds cells (take k out')) (sym (ap (λ t. get_or t 1 0) x.its_report)) (written_back out' x.answer x.kept (sym x.its_number ∙ zero));
  }

module _ (file text : List ℕ) where
  same_print : (text₁ text₂ : List ℕ) (f g : Output) → PrintResult file text text₁ f → PrintResult file text text₂ g → output_verdict f ≡ output_verdict g → rule_of file ≡ 0 → (f ≡ g) × (text₁ ≡ text₂)
  same_print text₁ text₂ (Ok j) (Ok k) p q e fair =
      let a = p.accepted refl in
      let b = q.accepted refl in
      let one = answered_same a b (print_theorems.certain file a.text b.text a.prints b.prints fair) in
      (ap Bytes one.1, one.0)
  same_print text₁ text₂ (Err x) (Err y) p q e fair = (cc, p.refused x refl ∙ sym (q.refused y refl))
  same_print text₁ text₂ (Ok j) (Err y) p q e fair = absurd (never (sym e))
  same_print text₁ text₂ (Err x) (Ok k) p q e fair = absurd (never e)

  play_exported : PlayExported file text
  play_exported = record {
    numbers = λ text' r report x. reported_output x ∙ x.kept.notice;
    unique = λ text₁ text₂ r₁ r₂ report₁ report₂ x y fair.
        let one = same_print text₁ text₂ x.answer y.answer x.kept y.kept (x.kept.answer ∙ sym y.kept.answer) fair in
        let same = same_output x y one.0 in
        (same.0, same.1, one.1);
  }

pub export_theorems : ExportTheorems
export_theorems = record {
  slacks = slacks_exported;
  plan = plan_exported;
  fresh = fresh_exported;
  post = post_exported;
  frame = frame_exported;
  write = write_exported;
  play = play_exported;
}
