-- The run of one node: each call's answer and tables are computed in turn; the one cell of A is forced, since a greatest A takes the whole
-- excess. So the tables end as stated however A and the slots are chosen, and the run that is played shows that there is one. Assumes nothing.
use Prim.Native.Nat.{ℕ, ◌+◌, ◌-◌, ◌*◌, ◌≤◌, min}
use native.Mathlib.Omega.{arith}
use mathlib.Core.Path.{◌≡◌, refl, sym, ◌∙◌, ap, subst}
use mathlib.Core.Logic.{inl}
use mathlib.Core.List.{List, [], ◌∷◌}
use lib.ListN.{length, get_or, get_or-replicate}
use lib.Seq.{get_or-take}
use Rattle.sums.specs.Sums.{sum_to, hit}
use Rattle.sums.specs.Searches.{first_from, first_below, some_below}
use Rattle.sums.specs.Tables.{cell, tab, square, written}
use Rattle.sums.proofs.Searches.{all_below}
use Rattle.star.specs.Refusals.{Verdict, Accepted, check, first_above}
use Rattle.star.specs.Lines.{whole_frame, line_sum, on_line, source_on, destination_on, total, slack, excess}
use Rattle.star.specs.Checks.{sizes_verdict, rule_verdict, rule_and_limit_verdict, ranges_verdict, demand_short_verdict, demand_above_verdict, refuse, then}
use Rattle.star.specs.Schedules.{Carries, count, differ, reconfigurations}
use Rattle.star.proofs.RefusalLaws.{promise_done}
use Rattle.flow.specs.Flows.{cut}
use Rattle.flow.proofs.Check.{below?, lines?, feasible?}
use Rattle.least.specs.Least.{Greatest, kept_from, kept_cell, left, longer, share, remainder, missing, before, rank, shared}
use Rattle.planner.specs.declared.answers.Report.{Report}
use Rattle.planner.specs.Plans.{Answer, Planned}
use Rattle.planner.specs.Lent.{Lent, lent, LentRoom}
use Rattle.planner.specs.Checks.{lent_short_verdict}
use Rattle.books.specs.Books.{books_agree, first_disagreeing}
use Rattle.books.specs.Queues.{zeroed, increased, overflowed, queued, served}
use Rattle.calls.specs.declared.record.Run.{Run}
use Rattle.calls.specs.Held.{Held}
use Rattle.calls.specs.Checks.{held_short_verdict, agreement_verdict, count_verdict, fresh_verdict, post_verdict, frame_verdict}
use Rattle.calls.specs.Runs.{fresh_notice, Freshened, post_notice, Posted, Framed}
use Rattle.calls.proofs.Verdicts.{frame_accepted, frame_accepts, frame_notice_lem}
use Rattle.worked.specs.Worked.{of_one, RunLine}
use Rattle.worked.proofs.Marks.{by_marks}

-- the record of this run after so many posts and frames
abbrev one : (posts frames : ℕ) → Run
one posts frames = record { nodes = 1; slots = 4; limit = 6; rule = 1; posts = posts; frames = frames }

-- ---- fresh
fresh_step : (old : Run) (w p s d : ℕ) (h : Held) (v : Verdict) → Freshened 1 4 6 1 (of_one old w p s d) h v → h ≡ of_one (one 0 0) 0 0 0 0
unfolding fresh_verdict ranges_verdict rule_and_limit_verdict rule_verdict sizes_verdict held_short_verdict then refuse zeroed written
fresh_step old w p s d h v call = call.accepted call.answer

-- ---- post
post_step : (x posts frames w p s d : ℕ) (h h' : Held) (v : Verdict) → h ≡ of_one (one posts frames) w p s d →
    post_verdict (x ∷ []) (of_one (one posts frames) w p s d) ≡ Accepted → Posted (x ∷ []) h h' v →
    h' ≡ of_one (one (posts + 1) frames) (min (w + x) 6) (p + x) s (d + (w + x - 6))
unfolding queued increased overflowed written tab
post_step x posts frames w p s d h h' v e accepted call = let f = subst (λ y. Posted (x ∷ []) y h' v) e call in f.accepted (f.answer ∙ accepted)

-- ---- frame
-- the greatest A of one cell is one number, and leaves 4
forced : (x y : ℕ) (a : List ℕ) → x - y ≡ 4 → Greatest 1 (whole_frame 1 4) (x ∷ []) (y ∷ []) → Greatest 1 (whole_frame 1 4) (x ∷ []) a → left 1 (x ∷ []) a ≡ 4 ∷ []
unfolding left square tab total sum_to cell
forced x y a e g h =
    let most : total 1 (y ∷ []) ≤ total 1 a = h.most (y ∷ []) g.withdrawn in
    let least : total 1 a ≤ total 1 (y ∷ []) = g.most a h.withdrawn in
    let equal : get_or a 0 0 ≡ y = omega arith in
    ap (λ z. (x - z) ∷ []) equal ∙ ap (λ z. z ∷ []) e

kept_four : (x : ℕ) (a : List ℕ) → left 1 (x ∷ []) a ≡ 4 ∷ [] → kept_from 1 (whole_frame 1 4) (x ∷ []) a ≡ 4 ∷ []
unfolding kept_from kept_cell longer share remainder missing before rank shared whole_frame line_sum on_line source_on destination_on sum_to cell tab square
kept_four x a e = ap (λ z. square 1 (kept_cell 1 (whole_frame 1 4) z)) e

-- the smallest tables that a frame of this run can be lent
abbrev smallest : (kept withdrawn : ℕ) → Lent
smallest kept withdrawn = lent (kept ∷ []) (withdrawn ∷ []) (0 ∷ 0 ∷ 0 ∷ 0 ∷ [])

-- longer ones are accepted too
long_accepted : (x posts frames p s d : ℕ) (k : Lent) → LentRoom 1 4 k → frame_verdict (of_one (one posts frames) x p s d) 1 1 4 ≡ Accepted →
    frame_verdict (of_one (one posts frames) x p s d) (length k.kept) (length k.withdrawn) (length k.schedule) ≡ Accepted
long_accepted x posts frames p s d k room e =
    let a = frame_accepted (of_one (one posts frames) x p s d) (smallest 0 0) e in
    sym (frame_accepts (record { ranges = a.ranges; long_enough = a.long_enough; tables = room; balanced = a.balanced; few = a.few }))

frame_step : (x y posts frames p s d : ℕ) (h h' : Held) (r : Answer) (k k' : Lent) → h ≡ of_one (one posts frames) x p s d → LentRoom 1 4 k →
    frame_verdict (of_one (one posts frames) x p s d) 1 1 4 ≡ Accepted → x - y ≡ 4 → Greatest 1 (whole_frame 1 4) (x ∷ []) (y ∷ []) → Framed k k' h h' r →
    h' ≡ of_one (one posts (frames + 1)) (x - 4) p (s + 4) d
unfolding served increased written tab
frame_step x y posts frames p s d h h' r k k' e room accepted leaves g call =
    let f = subst (λ z. Framed k k' z h' r) e call in
    let done = f.accepted (f.answer ∙ long_accepted x posts frames p s d k room accepted) in
    let plan = done.plan.wrote.plan.least refl in
    let four : get_or k'.kept 0 0 ≡ 4
    = sym (get_or-take 1 k'.kept 0 0 (omega arith)) ∙ ap (λ z. get_or z 0 0) (plan.1 ∙ kept_four x k'.withdrawn (forced x y k'.withdrawn leaves g plan.0)) in
    done.after ∙ ap (λ z. of_one (one posts (frames + 1)) (x - z) p (s + z) d) four

-- A for a queue of 6, and for one of 5
six : Greatest 1 (whole_frame 1 4) (6 ∷ []) (2 ∷ [])
unfolding all_below below? lines? feasible? cut excess slack whole_frame line_sum on_line source_on destination_on sum_to cell tab total
six = by_marks 1 4 (6 ∷ []) (2 ∷ []) (0 ∷ 0 ∷ []) refl refl

five : Greatest 1 (whole_frame 1 4) (5 ∷ []) (1 ∷ [])
unfolding all_below below? lines? feasible? cut excess slack whole_frame line_sum on_line source_on destination_on sum_to cell tab total
five = by_marks 1 4 (5 ∷ []) (1 ∷ []) (0 ∷ 0 ∷ []) refl refl

-- ---- the run that is played
-- the schedule that names source 0 in each of four slots carries 4
four_slots : Carries 1 4 (0 ∷ 0 ∷ 0 ∷ 0 ∷ []) (4 ∷ [])
unfolding count sum_to hit cell
four_slots = record {
  free = record {
    heard = λ k j p q. inl (omega (arith, get_or-replicate {A = ℕ} 4 (k * 1 + j) 0 0 (omega arith)));
    once = λ k j v p q r h e. omega arith;
  };
  exact = λ i j p q.
      let ei : i ≡ 0 = omega arith in
      let ej : j ≡ 0 = omega arith in
      rw (ei, ej) refl;
}

-- what a frame reports that sends four
abbrev sends_four : (refused : ℕ) → Report
sends_four refused = record { kept = 4; refused = refused; reconfigurations = 0 }

-- a frame that sends four of x
sends_four_lem : (x y posts frames p s d k a : ℕ) → frame_verdict (of_one (one posts frames) x p s d) 1 1 4 ≡ Accepted → x - y ≡ 4 → y ≡ x - 4 →
    Greatest 1 (whole_frame 1 4) (x ∷ []) (y ∷ []) →
    Framed (smallest k a) (smallest 4 y) (of_one (one posts frames) x p s d) (of_one (one posts (frames + 1)) (x - 4) p (s + 4) d) (Planned (sends_four y))
unfolding served increased written tab total sum_to cell reconfigurations differ some_below
sends_four_lem x y posts frames p s d k a accepted leaves takes g =
    promise_done (sym accepted) (frame_notice_lem (of_one (one posts frames) x p s d) 1 1 4) _ _ refl (record {
      plan = record {
        wrote = record {
          plan = record {
            fair = λ e. absurd (omega arith);
            least = λ _. (g, sym (kept_four x (y ∷ []) (forced x y (y ∷ []) leaves g g)));
            carried = four_slots;
          };
          kept_length = refl;
          withdrawn_length = refl;
          schedule_length = refl;
          kept_rest = refl;
          withdrawn_rest = refl;
          schedule_rest = refl;
        };
        figures = record { kept_total = refl; refused_total = omega arith; reconfigured = refl };
      };
      after = refl;
    })

pub one_node : RunLine 10 3 13 8 4 1
unfolding fresh_verdict fresh_notice post_verdict post_notice check frame_verdict ranges_verdict rule_and_limit_verdict rule_verdict sizes_verdict demand_short_verdict demand_above_verdict held_short_verdict lent_short_verdict agreement_verdict count_verdict then refuse
    first_disagreeing books_agree first_below first_from first_above zeroed increased overflowed queued written tab
one_node = record {
  ends = λ old w p s d k₁ k₁' k₂ k₂' h₁ h₂ h₃ h₄ h₅ v₀ v₁ v₂ r₁ r₂ room₁ room₂ run.
      let e₁ = fresh_step old w p s d h₁ v₀ run.fresh in
      let e₂ = post_step 10 0 0 0 0 0 0 h₁ h₂ v₁ e₁ refl run.first_post in
      let e₃ = frame_step 6 2 1 0 10 0 4 h₂ h₃ r₁ k₁ k₁' e₂ room₁ refl refl six run.first_frame in
      let e₄ = post_step 3 1 1 2 10 4 4 h₃ h₄ v₂ e₃ refl run.second_post in
      let e₅ = frame_step 5 1 2 1 13 4 4 h₄ h₅ r₂ k₂ k₂' e₄ room₂ refl refl five run.second_frame in
      (ap (λ h. h.posted) e₅, ap (λ h. h.sent) e₅, ap (λ h. h.dropped) e₅, ap (λ h. h.waiting) e₅);
  plays = λ old w p s d. (
    of_one (one 0 0) 0 0 0 0,
    of_one (one 1 0) 6 10 0 4,
    of_one (one 1 1) 2 10 4 4,
    of_one (one 2 1) 5 13 4 4,
    of_one (one 2 2) 1 13 8 4,
    smallest 4 2,
    smallest 4 1,
    Planned (sends_four 2),
    Planned (sends_four 1),
    record {
      fresh = promise_done refl refl _ _ refl refl;
      first_post = promise_done refl refl _ _ refl refl;
      first_frame = sends_four_lem 6 2 1 0 10 0 4 0 0 refl refl refl six;
      second_post = promise_done refl refl _ _ refl refl;
      second_frame = sends_four_lem 5 1 2 1 13 4 4 4 2 refl refl refl five;
    },
    refl,
    refl,
  );
}
