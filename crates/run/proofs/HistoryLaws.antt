-- The theorem on a run's books, from what holds at every moment of its history: the books agree, so that refusal 8 cannot come; and what an accepted
-- frame plans from is the queue, so that the least rule's plan sends the most. And a call finds what it asks. Assumes nothing.
use Rattle.std.specs.Prelude.{Ok, Err}
use Prim.Native.Nat.{ℕ, ◌*◌, ◌/◌, ◌%◌, ◌≤◌, ◌<◌}
use native.Mathlib.Nat.{le_of_eq}
use native.Mathlib.Omega.{arith}
use mathlib.Core.Path.{◌≡◌, refl, sym, ◌∙◌, ap, subst}
use mathlib.Core.Bool.{Bool, true, false}
use mathlib.Core.List.{List, [], ◌∷◌, ◌++◌}
use lib.ListN.{length, get_or}
use borrow.Author.Tests.{le-ltb}
use Rattle.sums.specs.Tables.{cell}
use Rattle.sums.proofs.Tables.{place_split, at_place}
use Rattle.star.specs.declared.refusals.Refusal.TheVariants.{BooksDisagree}
use Rattle.star.specs.Refusals.{Verdict, Accepted, Refused, Notice, notice_of, check, some_cell, verdict_of}
use Rattle.star.proofs.RefusalLaws.{never}
use Rattle.least.proofs.Counts.{counts_admissible}
use Rattle.planner.specs.Plans.{Answer}
use Rattle.planner.specs.Lent.{Lent}
use Rattle.books.proofs.Agreements.{Agree}
use Rattle.calls.specs.Held.{Held, LongEnough, disagreeing}
use Rattle.calls.specs.Runs.{fresh_notice, Freshened, post_notice, Posted, frame_notice, Framed}
use Rattle.calls.proofs.Verdicts.{Balanced, none_disagree, frame_accepted}
use Rattle.run.specs.Histories.{Event, posting, framing, restarting, outcome, Happens, History, continued, queue, posts_of, frames_of, SendsMost, BooksHold}
use Rattle.run.specs.Theorems.{BooksInOrder, Callable}
use Rattle.run.proofs.SentLaws.{plan_most, met_ext}
use Rattle.run.proofs.Moments.{Now, always, planned, sent_waited}

-- an event of a history stands between two moments of it
between : {n l limit rule : ℕ} {h : Held} (later earlier : List Event) (e : Event) → History n l limit rule (later ++ e ∷ earlier) h →
    (m : Held) × (m' : Held) × (History n l limit rule earlier m) × Happens e m m'
between [] earlier e (continued e₁ es h h' past c) = (h, h', past, c)
between (x ∷ later) earlier e (continued x₁ es h h' past c) = between later earlier e past

-- ---- the books agree
module _ {n l limit rule : ℕ} {es : List Event} {h : Held} (now : Now n l limit rule es h) where
  all_agree : (p : ℕ) → p < n * n → Agree limit h.run.posts (get_or h.waiting p 0) (get_or h.posted p 0) (get_or h.sent p 0) (get_or h.dropped p 0)
  all_agree p lt =
      let i = p / n in
      let j = p % n in
      let s = place_split n p lt in
      record {
        short_enough = omega (arith, at_place n h.waiting p lt, now.waiting i j s.0 s.1.0, now.short_enough i j s.0 s.1.0);
        balance = omega (arith, at_place n h.waiting p lt, at_place n h.posted p lt, at_place n h.sent p lt, at_place n h.dropped p lt, now.waiting i j s.0 s.1.0, now.posted i j s.0 s.1.0, now.sent i j s.0 s.1.0, now.dropped i j s.0 s.1.0, now.balance i j s.0 s.1.0);
        possible = omega (arith, at_place n h.posted p lt, now.posted i j s.0 s.1.0, now.possible i j s.0 s.1.0, now.posts);
      }

  now_balanced : Balanced h
  now_balanced = record { books = λ p lt. rw now.limits (all_agree p (rw now.nodes at lt)) }

  now_agree : disagreeing h ≡ n * n
  now_agree = rw (sym now.nodes) (none_disagree now_balanced)

-- ---- refusal 8 does not come: a check with another number, or one that is passed, leaves it to a later one to give 8
other : (b : Bool) (number place : ℕ) (later : Notice) → (check b number place later).number ≡ 8 → (number ≡ 8 → ⊥) → later.number ≡ 8
unfolding check
other true number place later e not_eight = absurd (not_eight e)
other false number place later e not_eight = e

over : (b : Bool) (number place : ℕ) (later : Notice) → (check b number place later).number ≡ 8 → b ≡ false → later.number ≡ 8
unfolding check
over true number place later e passed = let z : ◌≡◌ {A = ℕ} 0 1 = cc in absurd (omega arith)
over false number place later e passed = e

passes_books : {n l limit rule : ℕ} {es : List Event} {h : Held} → Now n l limit rule es h → some_cell (h.run.nodes * h.run.nodes) (disagreeing h) ≡ false
passes_books now = le-ltb _ _ (le_of_eq (sym (none_disagree (now_balanced now))))

-- the number that a refusal by 8 has
eight : {v : Verdict} {numbers : Notice} {p : ℕ} → notice_of v ≡ numbers → v ≡ Refused (BooksDisagree p) → numbers.number ≡ 8
eight told e = ap (λ x. x.number) (sym told ∙ ap notice_of e)

module _ {n l limit rule : ℕ} {es : List Event} {h h' : Held} (now : Now n l limit rule es h) (p : ℕ) where
  post_not_eight : (arrivals : List ℕ) {v : Verdict} → Posted arrivals h h' v → v ≡ Refused (BooksDisagree p) → ⊥
  unfolding post_notice
  post_not_eight arrivals c e =
      let nodes = other _ _ _ _ (eight c.notice e) (λ q. omega arith) in
      let slots = other _ _ _ _ nodes (λ q. omega arith) in
      let rules = other _ _ _ _ slots (λ q. omega arith) in
      let limits = other _ _ _ _ rules (λ q. omega arith) in
      let lengths = other _ _ _ _ limits (λ q. omega arith) in
      let tables = other _ _ _ _ lengths (λ q. omega arith) in
      let books = over _ _ _ _ tables (passes_books now) in
      let count = other _ _ _ _ books (λ q. omega arith) in
      let last = other _ _ _ _ count (λ q. omega arith) in
      omega (arith, last)

  frame_not_eight : {lent plan : Lent} (r : Answer) → Framed lent plan h h' r → verdict_of r ≡ Refused (BooksDisagree p) → ⊥
  unfolding frame_notice
  frame_not_eight r c e =
      let nodes = other _ _ _ _ (eight c.notice e) (λ q. omega arith) in
      let slots = other _ _ _ _ nodes (λ q. omega arith) in
      let rules = other _ _ _ _ slots (λ q. omega arith) in
      let limits = other _ _ _ _ rules (λ q. omega arith) in
      let tables = other _ _ _ _ limits (λ q. omega arith) in
      let books = over _ _ _ _ tables (passes_books now) in
      let last = other _ _ _ _ books (λ q. omega arith) in
      omega (arith, last)

-- a fresh start does not look at the books
fresh_not_eight : {n l limit rule p : ℕ} {h h' : Held} {v : Verdict} → Freshened n l limit rule h h' v → v ≡ Refused (BooksDisagree p) → ⊥
unfolding fresh_notice
fresh_not_eight c e =
    let nodes = other _ _ _ _ (eight c.notice e) (λ q. omega arith) in
    let slots = other _ _ _ _ nodes (λ q. omega arith) in
    let rules = other _ _ _ _ slots (λ q. omega arith) in
    let limits = other _ _ _ _ rules (λ q. omega arith) in
    let last = other _ _ _ _ limits (λ q. omega arith) in
    omega (arith, last)

happens_not_eight : {n l limit rule : ℕ} {es : List Event} {h : Held} → Now n l limit rule es h → (p : ℕ) (e : Event) (h' : Held) → Happens e h h' → outcome e ≡ Refused (BooksDisagree p) → ⊥
happens_not_eight now p (posting arrivals v) h' c = post_not_eight now p arrivals c
happens_not_eight now p (framing lent plan r) h' c = frame_not_eight now p r c
happens_not_eight now p (restarting n l limit rule x) h' c = fresh_not_eight c

-- the record keeps N, L, B and the rule, and counts the accepted posts and frames
now_run : {n l limit rule : ℕ} {es : List Event} {h : Held} → Now n l limit rule es h →
    h.run ≡ record { nodes = n; slots = l; limit = limit; rule = rule; posts = posts_of es; frames = frames_of es }
now_run {h = h} now = rw (← now.nodes, ← now.slots, ← now.limits, ← now.rules, ← now.posts, ← now.frames) refl

-- ---- the theorem
module _ {n l limit rule : ℕ} where
  sends_most : {es : List Event} (lent plan : Lent) (r : Answer) {h h' : Held} → Now n l limit rule es h → Framed lent plan h h' r → verdict_of r ≡ Accepted → rule ≡ 1 →
      SendsMost n l (queue n l limit es) plan.schedule
  sends_most {es = es} lent plan (Ok f) {h = h} now c e least = record {
    whole =
        let room : l * n ≤ length lent.schedule = rw (now.nodes, now.slots) at (frame_accepted h lent (sym c.answer)).tables.schedule in
        omega (arith, room, (planned now c).wrote.schedule_length);
    waited = λ i j hi hj. omega (arith, sent_waited now c i j hi hj, now.waiting i j hi hj);
    most = λ other free.
        omega (
          arith,
          met_ext n l (cell n h.waiting) (queue n l limit es) other now.waiting,
          plan_most (rw least at (planned now c).wrote.plan) other (counts_admissible free),
        );
  }
  sends_most lent plan (Err r) now c e least = absurd (never e)

  pub books_hold : {es : List Event} {h : Held} → History n l limit rule es h → BooksHold n l limit rule es h
  books_hold {es} {h} past = let now = always past in record {
    run = now_run now;
    long_enough = now.long_enough;
    balance = λ i j hi hj. omega (arith, now.posted i j hi hj, now.sent i j hi hj, now.dropped i j hi hj, now.waiting i j hi hj, now.balance i j hi hj);
    posted = now.posted;
    sent = now.sent;
    dropped = now.dropped;
    waiting = now.waiting;
    agree = now_agree now;
    never_eight = λ later earlier e p split eight.
        let m = between later earlier e (subst (λ x. History n l limit rule x h) split past) in
        happens_not_eight (always m.2) p e m.1 m.3 eight;
    most = λ least later earlier lent plan r split accepted.
        let m = between later earlier (framing lent plan r) (subst (λ x. History n l limit rule x h) split past) in
        sends_most lent plan r (always m.2) m.3 accepted least;
  }

  -- at every moment what is held is as a call asks
  pub always_callable : {es : List Event} {h : Held} → History n l limit rule es h → Callable h
  always_callable {h = h} past = let now = always past in record {
    ranges = rw (now.nodes, now.slots, now.rules, now.limits) now.ranges;
    long_enough = subst (λ m. LongEnough m h) (sym now.nodes) now.long_enough;
    books_in_order =
        subst (λ m. BooksInOrder m h) (sym now.nodes)
        (record {
          queued = λ p lt. omega (arith, (all_agree now p lt).short_enough, now.limits);
          balanced = λ p lt. (all_agree now p lt).balance;
          possible = λ p lt. (all_agree now p lt).possible;
        });
  }
