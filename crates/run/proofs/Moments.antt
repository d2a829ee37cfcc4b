-- What holds at every moment of a run's history, by induction on its events. At every moment the four tables hold what the events alone say, each
-- queue is at most B, and arrived = queue + carried + exceeded: an accepted post adds an arrival on the left, and on the right what of it finds room
-- and what does not; an accepted frame moves what its schedule gives, which is what it keeps and no more than waits, from the queue to carried; a
-- refusal changes nothing. Assumes nothing.
use Rattle.std.specs.Prelude.{Ok, Err}
use Prim.Native.Nat.{ℕ, ◌+◌, ◌-◌, ◌*◌, ◌≤◌, ◌<◌, min}
use native.Mathlib.Omega.{arith}
use mathlib.Core.Path.{◌≡◌, refl, sym, ◌∙◌, ap, subst}
use mathlib.Core.List.{List, [], ◌∷◌}
use Rattle.sums.specs.Tables.{cell}
use Rattle.sums.proofs.Tables.{cell_lt}
use Rattle.star.specs.declared.refusals.Refusal.{Refusal}
use Rattle.star.specs.Refusals.{Accepted, Refused, Ranges}
use Rattle.star.specs.Lines.{whole_frame}
use Rattle.star.specs.Schedules.{count}
use Rattle.planner.specs.declared.answers.Report.{Report}
use Rattle.planner.specs.Plans.{PlanDone}
use Rattle.planner.specs.Lent.{Lent}
use Rattle.planner.proofs.PlanLaws.{plan_below}
use Rattle.books.specs.Queues.{increased, overflowed, queued, served}
use Rattle.books.proofs.QueueLaws.{zeroed_cell, increased_cell, overflowed_cell, queued_cell, served_cell}
use Rattle.calls.specs.Held.{Held, LongEnough}
use Rattle.calls.specs.Runs.{Freshened, Posted, Framed}
use Rattle.calls.proofs.Verdicts.{fresh_accepted, post_accepted}
use Rattle.run.specs.Histories.{Event, posting, framing, restarting, Happens, History, started, continued, arrived, carried, queue, exceeded, posts_of, frames_of}
use Rattle.run.proofs.CallLaws.{still_long, fresh_lengths, post_lengths}
use Rattle.run.proofs.FrameLaws.{frame_lengths}

-- ---- what holds at a moment
pub record Now (n l limit rule : ℕ) (es : List Event) (h : Held) : Type 0 where
  pub ranges : Ranges n l rule limit
  pub long_enough : LongEnough n h
  pub nodes : h.run.nodes ≡ n
  pub slots : h.run.slots ≡ l
  pub limits : h.run.limit ≡ limit
  pub rules : h.run.rule ≡ rule
  pub posts : h.run.posts ≡ posts_of es
  pub frames : h.run.frames ≡ frames_of es
  pub posted : (i j : ℕ) → i < n → j < n → cell n h.posted i j ≡ arrived n es i j
  pub sent : (i j : ℕ) → i < n → j < n → cell n h.sent i j ≡ carried n l es i j
  pub dropped : (i j : ℕ) → i < n → j < n → cell n h.dropped i j ≡ exceeded n l limit es i j
  pub waiting : (i j : ℕ) → i < n → j < n → cell n h.waiting i j ≡ queue n l limit es i j
  pub short_enough : (i j : ℕ) → i < n → j < n → queue n l limit es i j ≤ limit
  pub balance : (i j : ℕ) → i < n → j < n → arrived n es i j ≡ queue n l limit es i j + carried n l es i j + exceeded n l limit es i j
  pub possible : (i j : ℕ) → i < n → j < n → arrived n es i j ≤ 65535 * posts_of es

-- ---- the start
now_started : {n l limit rule : ℕ} {h h' : Held} → Freshened n l limit rule h h' Accepted → Now n l limit rule [] h'
unfolding arrived carried queue exceeded posts_of frames_of
now_started {n} {l} {limit} {rule} {h} c =
    let passed = fresh_accepted n l limit rule h (sym c.answer) in
    let done = c.accepted refl in
    record {
      ranges = passed.0;
      long_enough = still_long passed.1 (fresh_lengths Accepted c);
      nodes = ap (λ x. x.run.nodes) done;
      slots = ap (λ x. x.run.slots) done;
      limits = ap (λ x. x.run.limit) done;
      rules = ap (λ x. x.run.rule) done;
      posts = ap (λ x. x.run.posts) done;
      frames = ap (λ x. x.run.frames) done;
      posted = λ i j hi hj. ap (λ x. cell n x.posted i j) done ∙ zeroed_cell n i j hi hj h.posted;
      sent = λ i j hi hj. ap (λ x. cell n x.sent i j) done ∙ zeroed_cell n i j hi hj h.sent;
      dropped = λ i j hi hj. ap (λ x. cell n x.dropped i j) done ∙ zeroed_cell n i j hi hj h.dropped;
      waiting = λ i j hi hj. ap (λ x. cell n x.waiting i j) done ∙ zeroed_cell n i j hi hj h.waiting;
      short_enough = λ i j hi hj. omega arith;
      balance = λ i j hi hj. omega arith;
      possible = λ i j hi hj. omega arith;
    }

-- ---- a refused event: the events say of each pair what they said before, and nothing that is held changes
record Unmoved (n l limit : ℕ) (e : Event) (es : List Event) : Type 0 where
  pub same_arrived : (i j : ℕ) → arrived n (e ∷ es) i j ≡ arrived n es i j
  pub same_carried : (i j : ℕ) → carried n l (e ∷ es) i j ≡ carried n l es i j
  pub same_queue : (i j : ℕ) → queue n l limit (e ∷ es) i j ≡ queue n l limit es i j
  pub same_exceeded : (i j : ℕ) → exceeded n l limit (e ∷ es) i j ≡ exceeded n l limit es i j
  pub same_posts : posts_of (e ∷ es) ≡ posts_of es
  pub same_frames : frames_of (e ∷ es) ≡ frames_of es

module _ (n l limit : ℕ) (es : List Event) where
  post_unmoved : (arrivals : List ℕ) (x : Refusal) → Unmoved n l limit (posting arrivals (Refused x)) es
  unfolding arrived carried queue exceeded posts_of frames_of
  post_unmoved arrivals x = record {
    same_arrived = λ i j. omega arith;
    same_carried = λ i j. refl;
    same_queue = λ i j. refl;
    same_exceeded = λ i j. omega arith;
    same_posts = omega arith;
    same_frames = refl;
  }

  frame_unmoved : (lent plan : Lent) (x : Refusal) → Unmoved n l limit (framing lent plan (Err x)) es
  unfolding arrived carried queue exceeded posts_of frames_of
  frame_unmoved lent plan x = record {
    same_arrived = λ i j. refl;
    same_carried = λ i j. omega arith;
    same_queue = λ i j. omega arith;
    same_exceeded = λ i j. refl;
    same_posts = refl;
    same_frames = omega arith;
  }

  start_unmoved : (n' l' limit' rule' : ℕ) (x : Refusal) → Unmoved n l limit (restarting n' l' limit' rule' x) es
  unfolding arrived carried queue exceeded posts_of frames_of
  start_unmoved n' l' limit' rule' x = record {
    same_arrived = λ i j. refl;
    same_carried = λ i j. refl;
    same_queue = λ i j. refl;
    same_exceeded = λ i j. refl;
    same_posts = refl;
    same_frames = refl;
  }

now_unmoved : {n l limit rule : ℕ} {e : Event} {es : List Event} {h h' : Held} → Unmoved n l limit e es → h' ≡ h → Now n l limit rule es h → Now n l limit rule (e ∷ es) h'
now_unmoved {n} {l} {limit} {rule} {e} {es} {h} u same now = subst (λ x. Now n l limit rule (e ∷ es) x) (sym same) (record {
  ranges = now.ranges;
  long_enough = now.long_enough;
  nodes = now.nodes;
  slots = now.slots;
  limits = now.limits;
  rules = now.rules;
  posts = now.posts ∙ sym u.same_posts;
  frames = now.frames ∙ sym u.same_frames;
  posted = λ i j hi hj. now.posted i j hi hj ∙ sym (u.same_arrived i j);
  sent = λ i j hi hj. now.sent i j hi hj ∙ sym (u.same_carried i j);
  dropped = λ i j hi hj. now.dropped i j hi hj ∙ sym (u.same_exceeded i j);
  waiting = λ i j hi hj. now.waiting i j hi hj ∙ sym (u.same_queue i j);
  short_enough = λ i j hi hj. omega (arith, now.short_enough i j hi hj, u.same_queue i j);
  balance = λ i j hi hj. omega (arith, now.balance i j hi hj, u.same_arrived i j, u.same_queue i j, u.same_carried i j, u.same_exceeded i j);
  possible = λ i j hi hj. omega (arith, now.possible i j hi hj, u.same_arrived i j, u.same_posts);
})

-- ---- a post
module _ {n l limit rule : ℕ} {es : List Event} (arrivals : List ℕ) {h h' : Held} (now : Now n l limit rule es h) (c : Posted arrivals h h' Accepted) (i j : ℕ) (hi : i < n) (hj : j < n) where
  more_posted : cell n h'.posted i j ≡ cell n h.posted i j + cell n arrivals i j
  more_posted = ap (λ x. cell n x.posted i j) (c.accepted refl) ∙ ap (λ m. cell n (increased m arrivals h.posted) i j) now.nodes ∙ increased_cell n i j hi hj arrivals h.posted

  more_dropped : cell n h'.dropped i j ≡ cell n h.dropped i j + (cell n h.waiting i j + cell n arrivals i j - limit)
  more_dropped =
      ap (λ x. cell n x.dropped i j) (c.accepted refl)
      ∙ ap (λ m. cell n (overflowed m h.run.limit arrivals h.waiting h.dropped) i j) now.nodes
      ∙ ap (λ b. cell n (overflowed n b arrivals h.waiting h.dropped) i j) now.limits
      ∙ overflowed_cell n i j hi hj limit arrivals h.waiting h.dropped

  more_waiting : cell n h'.waiting i j ≡ min (cell n h.waiting i j + cell n arrivals i j) limit
  more_waiting =
      ap (λ x. cell n x.waiting i j) (c.accepted refl)
      ∙ ap (λ m. cell n (queued m h.run.limit arrivals h.waiting) i j) now.nodes
      ∙ ap (λ b. cell n (queued n b arrivals h.waiting) i j) now.limits
      ∙ queued_cell n i j hi hj limit arrivals h.waiting

  same_sent : cell n h'.sent i j ≡ cell n h.sent i j
  same_sent = ap (λ x. cell n x.sent i j) (c.accepted refl)

  arrival_most : cell n arrivals i j ≤ 65535
  unfolding cell
  arrival_most = (rw now.nodes at (post_accepted arrivals h (sym c.answer)).within).most (i * n + j) (cell_lt n i j hi hj)

now_posted : {n l limit rule : ℕ} {es : List Event} (arrivals : List ℕ) {h h' : Held} → Now n l limit rule es h → Posted arrivals h h' Accepted → Now n l limit rule (posting arrivals Accepted ∷ es) h'
unfolding arrived carried queue exceeded posts_of frames_of
now_posted arrivals now c = let done = c.accepted refl in record {
  ranges = now.ranges;
  long_enough = still_long now.long_enough (post_lengths arrivals Accepted c);
  nodes = ap (λ x. x.run.nodes) done ∙ now.nodes;
  slots = ap (λ x. x.run.slots) done ∙ now.slots;
  limits = ap (λ x. x.run.limit) done ∙ now.limits;
  rules = ap (λ x. x.run.rule) done ∙ now.rules;
  posts = omega (arith, ap (λ x. x.run.posts) done, now.posts);
  frames = ap (λ x. x.run.frames) done ∙ now.frames;
  posted = λ i j hi hj. omega (arith, more_posted arrivals now c i j hi hj, now.posted i j hi hj);
  sent = λ i j hi hj. same_sent arrivals now c i j hi hj ∙ now.sent i j hi hj;
  dropped = λ i j hi hj. omega (arith, more_dropped arrivals now c i j hi hj, now.dropped i j hi hj, now.waiting i j hi hj);
  waiting = λ i j hi hj. omega (arith, more_waiting arrivals now c i j hi hj, now.waiting i j hi hj);
  short_enough = λ i j hi hj. omega arith;
  balance = λ i j hi hj. omega (arith, now.balance i j hi hj);
  possible = λ i j hi hj. omega (arith, now.possible i j hi hj, arrival_most arrivals now c i j hi hj);
}

-- ---- a frame
module _ {n l limit rule : ℕ} {es : List Event} {lent plan : Lent} {f : Report} {h h' : Held} (now : Now n l limit rule es h) (c : Framed lent plan h h' (Ok f)) where
  pub planned : PlanDone n l rule (whole_frame n l) h.waiting lent plan f
  planned = rw (now.nodes, now.slots, now.rules) at (c.accepted refl).plan

  module _ (i j : ℕ) (hi : i < n) (hj : j < n) where
    less_waiting : cell n h'.waiting i j ≡ cell n h.waiting i j - count n l plan.schedule i j
    less_waiting =
        ap (λ x. cell n x.waiting i j) (c.accepted refl).after
        ∙ ap (λ m. cell n (served m plan.kept h.waiting) i j) now.nodes
        ∙ served_cell n i j hi hj plan.kept h.waiting
        ∙ ap (λ x. cell n h.waiting i j - x) (sym (planned.wrote.plan.carried.exact i j hi hj))

    more_sent : cell n h'.sent i j ≡ cell n h.sent i j + count n l plan.schedule i j
    more_sent =
        ap (λ x. cell n x.sent i j) (c.accepted refl).after
        ∙ ap (λ m. cell n (increased m plan.kept h.sent) i j) now.nodes
        ∙ increased_cell n i j hi hj plan.kept h.sent
        ∙ ap (λ x. cell n h.sent i j + x) (sym (planned.wrote.plan.carried.exact i j hi hj))

    same_posted : cell n h'.posted i j ≡ cell n h.posted i j
    same_posted = ap (λ x. cell n x.posted i j) (c.accepted refl).after

    same_dropped : cell n h'.dropped i j ≡ cell n h.dropped i j
    same_dropped = ap (λ x. cell n x.dropped i j) (c.accepted refl).after

    pub sent_waited : count n l plan.schedule i j ≤ cell n h.waiting i j
    sent_waited = omega (arith, planned.wrote.plan.carried.exact i j hi hj, plan_below now.ranges.known_rule planned.wrote.plan i j hi hj)

now_framed : {n l limit rule : ℕ} {es : List Event} {lent plan : Lent} {f : Report} {h h' : Held} → Now n l limit rule es h → Framed lent plan h h' (Ok f) →
    Now n l limit rule (framing lent plan (Ok f) ∷ es) h'
unfolding arrived carried queue exceeded posts_of frames_of
now_framed {lent = lent} {plan = plan} {f = f} {h = h} {h' = h'} now c = let done = (c.accepted refl).after in record {
  ranges = now.ranges;
  long_enough = still_long now.long_enough (frame_lengths lent plan h h' (Ok f) c).0;
  nodes = ap (λ x. x.run.nodes) done ∙ now.nodes;
  slots = ap (λ x. x.run.slots) done ∙ now.slots;
  limits = ap (λ x. x.run.limit) done ∙ now.limits;
  rules = ap (λ x. x.run.rule) done ∙ now.rules;
  posts = ap (λ x. x.run.posts) done ∙ now.posts;
  frames = omega (arith, ap (λ x. x.run.frames) done, now.frames);
  posted = λ i j hi hj. same_posted now c i j hi hj ∙ now.posted i j hi hj;
  sent = λ i j hi hj. omega (arith, more_sent now c i j hi hj, now.sent i j hi hj);
  dropped = λ i j hi hj. same_dropped now c i j hi hj ∙ now.dropped i j hi hj;
  waiting = λ i j hi hj. omega (arith, less_waiting now c i j hi hj, now.waiting i j hi hj);
  short_enough = λ i j hi hj. omega (arith, now.short_enough i j hi hj);
  balance = λ i j hi hj. omega (arith, now.balance i j hi hj, sent_waited now c i j hi hj, now.waiting i j hi hj);
  possible = now.possible;
}

-- ---- every moment
module _ {n l limit rule : ℕ} where
  now_after : (e : Event) {es : List Event} {h h' : Held} → Now n l limit rule es h → Happens e h h' → Now n l limit rule (e ∷ es) h'
  now_after (posting arrivals (Ok _)) now c = now_posted arrivals now c
  now_after (posting arrivals (Err r)) {es} now c = now_unmoved (post_unmoved n l limit es arrivals r) (c.refused r refl) now
  now_after (framing lent plan (Ok f)) now c = now_framed now c
  now_after (framing lent plan (Err r)) {es} now c = now_unmoved (frame_unmoved n l limit es lent plan r) (ap (λ x. x.0) (c.refused r refl)) now
  now_after (restarting n' l' limit' rule' x) {es} now c = now_unmoved (start_unmoved n l limit es n' l' limit' rule' x) (c.refused x refl) now

  pub always : {es : List Event} {h : Held} → History n l limit rule es h → Now n l limit rule es h
  always (started h h' c) = now_started c
  always (continued e es h h' past c) = now_after e (always past) c
