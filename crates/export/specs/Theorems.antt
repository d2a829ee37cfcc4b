-- What follows from the promises of the entries for C and Rust, as statements; their proofs are in proofs/ExportTheorems.antt. Each number returned and
-- each place is that of the documents' chain of checks; two results on the same input agree as those of the entries do; and a call of a run is one of
-- those of which its histories are made; and what a call wrote as a scenario file reads back the same.
use Rattle.std.specs.Prelude.{ℕ, ◌≡◌, List, ℤ, length, get_or, take}
use Rattle.star.specs.Refusals.{notice}
use Rattle.slacks.specs.Slacks.{slacks_notice, SlacksResult}
use Rattle.planner.specs.Plans.{plan_notice, PlanResult}
use Rattle.planner.specs.Theorems.{SameResults}
use Rattle.planner.specs.Lent.{Lent}
use Rattle.calls.specs.Held.{Held}
use Rattle.calls.specs.Runs.{fresh_notice, Freshened, post_notice, Posted, frame_notice, Framed}
use Rattle.run.specs.Theorems.{SameFrames}
use Rattle.files.specs.Format.{rule_of}
use Rattle.file_writer.specs.Theorems.{ReadsBack}
use Rattle.file_writer.specs.Writing.{write_notice, WriteResult}
use Rattle.scenario_text.specs.Outcomes.{print_notice, PrintResult}
use Rattle.export.specs.Reports.{Reported, ReportedPlan, ReportedOutput}

pub record SlacksExported (n l : ℕ) (d : List ℕ) (table : List ℤ) : Type 0 where
  pub numbers : (table' : List ℤ) (r p : ℕ) → Reported (SlacksResult n l d table table') r p → notice r p ≡ slacks_notice n l d (length table)
  pub unique : (table₁ table₂ : List ℤ) (r₁ p₁ r₂ p₂ : ℕ) → Reported (SlacksResult n l d table table₁) r₁ p₁ → Reported (SlacksResult n l d table table₂) r₂ p₂ →
      (r₁ ≡ r₂) × (p₁ ≡ p₂) × (table₁ ≡ table₂)

-- The report begins with the place; its next two numbers are the totals. The last one, the reconfigurations, is free as the schedule is.
pub record PlanExported (n l rule : ℕ) (d : List ℕ) (k : Lent) : Type 0 where
  pub numbers : (k' : Lent) (r : ℕ) (report : List ℕ) → ReportedPlan (λ a. PlanResult n l rule d k k' a) r report →
      notice r (get_or report 0 0) ≡ plan_notice n l rule d (length k.kept) (length k.withdrawn) (length k.schedule)
  pub unique : (k₁ k₂ : Lent) (r₁ r₂ : ℕ) (report₁ report₂ : List ℕ) → (x : ReportedPlan (λ a. PlanResult n l rule d k k₁ a) r₁ report₁) → (y : ReportedPlan (λ a. PlanResult n l rule d k k₂ a) r₂ report₂) →
      (r₁ ≡ r₂) × (take 3 report₁ ≡ take 3 report₂) × SameResults rule k₁ k₂ x.answer y.answer

pub record FreshExported (n l limit rule : ℕ) (h : Held) : Type 0 where
  pub numbers : (h' : Held) (r place : ℕ) → Reported (λ v. Freshened n l limit rule h h' v) r place →
      notice r place ≡ fresh_notice n l limit rule (length h.waiting) (length h.posted) (length h.sent) (length h.dropped)
  pub unique : (h₁ h₂ : Held) (r₁ place₁ r₂ place₂ : ℕ) → Reported (λ v. Freshened n l limit rule h h₁ v) r₁ place₁ → Reported (λ v. Freshened n l limit rule h h₂ v) r₂ place₂ →
      (r₁ ≡ r₂) × (place₁ ≡ place₂) × (h₁ ≡ h₂)

pub record PostExported (arrivals : List ℕ) (h : Held) : Type 0 where
  pub numbers : (h' : Held) (r place : ℕ) → Reported (λ v. Posted arrivals h h' v) r place → notice r place ≡ post_notice arrivals h
  pub unique : (h₁ h₂ : Held) (r₁ place₁ r₂ place₂ : ℕ) → Reported (λ v. Posted arrivals h h₁ v) r₁ place₁ → Reported (λ v. Posted arrivals h h₂ v) r₂ place₂ →
      (r₁ ≡ r₂) × (place₁ ≡ place₂) × (h₁ ≡ h₂)

pub record FrameExported (k : Lent) (h : Held) : Type 0 where
  pub numbers : (k' : Lent) (h' : Held) (r : ℕ) (report : List ℕ) → ReportedPlan (λ a. Framed k k' h h' a) r report →
      notice r (get_or report 0 0) ≡ frame_notice h (length k.kept) (length k.withdrawn) (length k.schedule)
  pub unique : (k₁ k₂ : Lent) (h₁ h₂ : Held) (r₁ r₂ : ℕ) (report₁ report₂ : List ℕ) → (x : ReportedPlan (λ a. Framed k k₁ h h₁ a) r₁ report₁) → (y : ReportedPlan (λ a. Framed k k₂ h h₂ a) r₂ report₂) →
      (r₁ ≡ r₂) × (take 3 report₁ ≡ take 3 report₂) × SameFrames h.run.rule k₁ k₂ h₁ h₂ x.answer y.answer

-- The report begins with the place; its next number is the length. What is written, cut to that length, reads back the same.
pub record WriteExported (n l limit rule : ℕ) (kinds cells out : List ℕ) : Type 0 where
  pub numbers : (out' : List ℕ) (r : ℕ) (report : List ℕ) → ReportedOutput (WriteResult n l limit rule kinds cells out out') r report →
      notice r (get_or report 0 0) ≡ write_notice n l limit rule kinds cells (length out)
  pub unique : (out₁ out₂ : List ℕ) (r₁ r₂ : ℕ) (report₁ report₂ : List ℕ) → ReportedOutput (WriteResult n l limit rule kinds cells out out₁) r₁ report₁ →
      ReportedOutput (WriteResult n l limit rule kinds cells out out₂) r₂ report₂ → (r₁ ≡ r₂) × (report₁ ≡ report₂) × (out₁ ≡ out₂)
  pub back : (out' : List ℕ) (r : ℕ) (report : List ℕ) → ReportedOutput (WriteResult n l limit rule kinds cells out out') r report → r ≡ 0 →
      ReadsBack n l limit rule kinds cells (take (get_or report 1 0) out')

-- Under rule 0 two results on the same file and text agree in everything; under rule 1 as far as two printed texts do (`PrintsAgree`).
pub record PlayExported (file text : List ℕ) : Type 0 where
  pub numbers : (text' : List ℕ) (r : ℕ) (report : List ℕ) → ReportedOutput (PrintResult file text text') r report → notice r (get_or report 0 0) ≡ print_notice (length text)
  pub unique : (text₁ text₂ : List ℕ) (r₁ r₂ : ℕ) (report₁ report₂ : List ℕ) → ReportedOutput (PrintResult file text text₁) r₁ report₁ →
      ReportedOutput (PrintResult file text text₂) r₂ report₂ → rule_of file ≡ 0 → (r₁ ≡ r₂) × (report₁ ≡ report₂) × (text₁ ≡ text₂)

pub record ExportTheorems : Type 0 where
  pub slacks : (n l : ℕ) (d : List ℕ) (table : List ℤ) → SlacksExported n l d table
  pub plan : (n l rule : ℕ) (d : List ℕ) (k : Lent) → PlanExported n l rule d k
  pub fresh : (n l limit rule : ℕ) (h : Held) → FreshExported n l limit rule h
  pub post : (arrivals : List ℕ) (h : Held) → PostExported arrivals h
  pub frame : (k : Lent) (h : Held) → FrameExported k h
  pub write : (n l limit rule : ℕ) (kinds cells out : List ℕ) → WriteExported n l limit rule kinds cells out
  pub play : (file text : List ℕ) → PlayExported file text
