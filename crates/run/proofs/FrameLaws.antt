-- The theorems on frames. An accepted frame has passed all checks of a plan, since no queue is longer than B; two such frames then agree as plans
-- do, and what is held follows from kept. Assumes nothing.
use Rattle.std.specs.Prelude.{Ok, Err}
use Prim.Native.Nat.{◌*◌}
use native.Mathlib.Omega.{arith}
use mathlib.Core.Path.{◌≡◌, refl, sym, ◌∙◌, ap, subst}
use lib.ListN.{length, take}
use Rattle.star.specs.declared.refusals.Refusal.{Refusal}
use Rattle.star.specs.Refusals.{Accepted, verdict_of}
use Rattle.star.specs.Tables.{Alike}
use Rattle.star.proofs.RefusalLaws.{never, promise_done}
use Rattle.planner.specs.Plans.{Answer, PlanResult}
use Rattle.planner.specs.Theorems.{SameAsNeeded}
use Rattle.planner.specs.Lent.{Lent, LentRoom}
use Rattle.planner.proofs.PlanLaws.{plan_notice_lem, plan_accepts}
use Rattle.planner.proofs.PlanTheorems.{plan_theorems}
use Rattle.books.proofs.QueueLaws.{increased_length, served_length, increased_alike, served_alike}
use Rattle.calls.specs.Held.{Held, HeldAlike, frame_run, after_frame}
use Rattle.calls.specs.Runs.{Framed}
use Rattle.calls.proofs.Verdicts.{frame_accepts, frame_accepted, alike_frame}
use Rattle.calls.proofs.Outcomes.{frame_room}
use Rattle.run.specs.Theorems.{SameLengths, SameFrames, SameFramesAsNeeded, FrameTheorems}
use Rattle.run.proofs.CallLaws.{lengths_same, alike_same, callable_balanced}

-- what a refused frame leaves: what is held, and what is lent
frame_unchanged : {k k' : Lent} {h h' : Held} {x : Refusal} → Framed k k' h h' (Err x) → (h' ≡ h) × (k' ≡ k)
frame_unchanged {x = x} c = let e = c.refused x refl in (ap (λ p. p.0) e, ap (λ p. p.1) e)

pub frame_planned : (k k' : Lent) (h h' : Held) (r : Answer) → Framed k k' h h' r → verdict_of r ≡ Accepted → PlanResult h.run.nodes h.run.slots h.run.rule h.waiting k k' r
frame_planned k k' h h' r c ok =
    promise_done (ok ∙ plan_accepts (frame_room (frame_accepted h k (sym c.answer ∙ ok))))
    (plan_notice_lem h.run.nodes h.run.slots h.run.rule h.waiting (length k.kept) (length k.withdrawn) (length k.schedule))
    k k' ok (c.accepted ok).plan

-- ---- two frames
frame_unique : (k k₁ k₂ : Lent) (h h₁ h₂ : Held) (r₁ r₂ : Answer) → Framed k k₁ h h₁ r₁ → Framed k k₂ h h₂ r₂ → SameFrames h.run.rule k₁ k₂ h₁ h₂ r₁ r₂
frame_unique k k₁ k₂ h h₁ h₂ (Ok f) r₂ c d =
    let e : verdict_of r₂ ≡ Accepted = d.answer ∙ sym c.answer in
    let plans =
    plan_theorems.unique h.run.nodes h.run.slots h.run.rule h.waiting k k₁ k₂ (Ok f) r₂ (frame_planned k k₁ h h₁ (Ok f) c refl) (frame_planned k k₂ h h₂ r₂ d e) in
    let then-held : k₁.kept ≡ k₂.kept → h₁ ≡ h₂ = λ kept. (c.accepted refl).after ∙ ap (λ x. after_frame x h) kept ∙ sym (d.accepted e).after in
    record {
      plans = plans;
      records = ap (λ x. x.run) (c.accepted refl).after ∙ sym (ap (λ x. x.run) (d.accepted e).after);
      refused_held = λ x q. absurd (never (sym q));
      fair_held = λ ok z. then-held (plans.fair_cells ok z).0;
      least_held = λ ok u same. then-held (plans.least_cells ok u same);
    }
frame_unique k k₁ k₂ h h₁ h₂ (Err x) (Ok f) c d = absurd (never (c.answer ∙ sym d.answer))
frame_unique k k₁ k₂ h h₁ h₂ (Err x) (Err y) c d =
    let one = frame_unchanged c in
    let other = frame_unchanged d in
    record {
      plans = record {
        verdicts = c.answer ∙ sym d.answer;
        kept_totals = refl;
        refused_totals = refl;
        refused_cells = λ z q. one.1 ∙ sym other.1;
        fair_cells = λ ok z. absurd (never ok);
        least_cells = λ ok u same. absurd (never ok);
      };
      records = ap (λ x. x.run) (one.0 ∙ sym other.0);
      refused_held = λ z q. one.0 ∙ sym other.0;
      fair_held = λ ok z. absurd (never ok);
      least_held = λ ok u same. absurd (never ok);
    }

pub frame_lengths : (k k' : Lent) (h h' : Held) (r : Answer) → Framed k k' h h' r →
    SameLengths h h' × (length k'.kept ≡ length k.kept) × (length k'.withdrawn ≡ length k.withdrawn) × (length k'.schedule ≡ length k.schedule)
frame_lengths k k' h h' (Err x) c =
    let same = frame_unchanged c in
    (lengths_same same.0, ap (λ y. length y.kept) same.1, ap (λ y. length y.withdrawn) same.1, ap (λ y. length y.schedule) same.1)
frame_lengths k k' h h' (Ok f) c =
    let room = (frame_accepted h k (sym c.answer)).long_enough in
    let done = c.accepted refl in (
      subst (λ x. SameLengths h x) (sym done.after) (record {
        waiting = served_length h.run.nodes k'.kept h.waiting room.waiting;
        posted = refl;
        sent = increased_length h.run.nodes k'.kept h.sent room.sent;
        dropped = refl;
      }),
      done.plan.wrote.kept_length,
      done.plan.wrote.withdrawn_length,
      done.plan.wrote.schedule_length,
    )

-- ---- two frames on what agrees in the cells needed
module _ (k k₁ x k₂ : Lent) (h h₁ g h₂ : Held) (same : HeldAlike h.run.nodes h g) (one : LentRoom h.run.nodes h.run.slots k) (other : LentRoom h.run.nodes h.run.slots x) where
  -- where both keep the same, what is held then agrees
  module _ (r₁ r₂ : Answer) (c : Framed k k₁ h h₁ r₁) (d : Framed x k₂ g h₂ r₂) (ok₁ : verdict_of r₁ ≡ Accepted) (ok₂ : verdict_of r₂ ≡ Accepted) where
    held_then : take (h.run.nodes * h.run.nodes) k₁.kept ≡ take (h.run.nodes * h.run.nodes) k₂.kept → HeldAlike h.run.nodes h₁ h₂
    held_then e =
        let kept : Alike (h.run.nodes * h.run.nodes) k₁.kept k₂.kept = record {
          first_room = omega (arith, one.kept, (c.accepted ok₁).plan.wrote.kept_length);
          second_room = omega (arith, other.kept, (d.accepted ok₂).plan.wrote.kept_length);
          cells = e;
        } in
        alike_same (c.accepted ok₁).after (d.accepted ok₂).after (record {
          run = ap frame_run same.run;
          waiting = rw (sym same.run) (served_alike h.run.nodes kept same.waiting);
          posted = same.posted;
          sent = rw (sym same.run) (increased_alike h.run.nodes kept same.sent);
          dropped = same.dropped;
        })

    -- each is a plan of what waits
    plans_needed : SameAsNeeded h.run.nodes h.run.rule k₁ k₂ r₁ r₂
    plans_needed =
        plan_theorems.needed h.run.nodes h.run.slots h.run.rule h.waiting g.waiting k k₁ x k₂ r₁ r₂
        (frame_planned k k₁ h h₁ r₁ c ok₁)
        (subst (λ run. PlanResult run.nodes run.slots run.rule g.waiting x k₂ r₂) (sym same.run) (frame_planned x k₂ g h₂ r₂ d ok₂))
        same.waiting
        one
        other

  frame_needed : (r₁ r₂ : Answer) → verdict_of r₁ ≡ verdict_of r₂ → Framed k k₁ h h₁ r₁ → Framed x k₂ g h₂ r₂ → SameFramesAsNeeded h.run.nodes h.run.rule k₁ k₂ h₁ h₂ r₁ r₂
  frame_needed (Ok f) r₂ verdicts c d =
      let plans = plans_needed (Ok f) r₂ c d refl (sym verdicts) in
      let held = held_then (Ok f) r₂ c d refl (sym verdicts) in
      record {
        plans = plans;
        refused_held = λ y q. absurd (never (sym q));
        fair_held = λ ok z. held ((plans.plans ok).fair_cells z).0;
        least_held = λ ok u withdrawn. held ((plans.plans ok).least_cells u withdrawn);
      }
  frame_needed (Err y) (Ok f) verdicts c d = absurd (never verdicts)
  frame_needed (Err y) (Err z) verdicts c d = record {
    plans = record { verdicts = verdicts; kept_totals = refl; refused_totals = refl; plans = λ ok. absurd (never ok) };
    refused_held = λ u q. alike_same (frame_unchanged c).0 (frame_unchanged d).0 same;
    fair_held = λ ok e. absurd (never ok);
    least_held = λ ok e withdrawn. absurd (never ok);
  }

pub frame_theorems : FrameTheorems
frame_theorems = record {
  accepts = λ k k' h h' r c callable room few.
      c.answer
      ∙ sym (frame_accepts (record { ranges = callable.ranges; long_enough = callable.long_enough; tables = room; balanced = callable_balanced callable; few = few }));
  planned = frame_planned;
  unique = frame_unique;
  needed = λ k k₁ x k₂ h h₁ g h₂ r₁ r₂ c d same one other.
      frame_needed k k₁ x k₂ h h₁ g h₂ same one other r₁ r₂ (c.answer ∙ alike_frame same one other ∙ sym d.answer) c d;
  lengths = frame_lengths;
}
