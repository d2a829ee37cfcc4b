-- What each call owes once its verdict is known: nothing changes after a refusal, and after an acceptance the work has the room that it asks
-- and leaves what the promise says. Assumes nothing.
use Prim.Native.Nat.{ℕ, ◌<◌, ◌^◌}
use native.Mathlib.Omega.{arith}
use mathlib.Core.Path.{◌≡◌, refl, sym, ◌∙◌, ap, subst}
use mathlib.Core.List.{List}
use lib.ListN.{length, get_or}
use Rattle.star.specs.declared.refusals.Refusal.{Refusal}
use Rattle.star.specs.Refusals.{Verdict, Accepted, Refused, verdict_of}
use Rattle.star.specs.Lines.{whole_frame}
use Rattle.star.specs.Rooms.{Square}
use Rattle.star.proofs.RefusalLaws.{promise_refused, promise_done}
use Rattle.planner.specs.declared.answers.Report.{Report}
use Rattle.planner.specs.Plans.{Answer, PlanDone}
use Rattle.planner.specs.Plans as answer
use Rattle.planner.specs.Lent.{Lent}
use Rattle.planner.specs.Work.{PlanRoom}
use Rattle.planner.proofs.PlanLaws.{whole_room, plan_below_at}
use Rattle.books.specs.Queues.{zeroed, increased, overflowed, queued, served}
use Rattle.books.specs.Rooms.{Tables, Adds, Arrives, Drops, Takes}
use Rattle.calls.specs.declared.record.Run.{Run}
use Rattle.calls.specs.Held.{Held, held, fresh_run, post_run, frame_run, record_after}
use Rattle.calls.specs.Runs.{Freshened, Posted, Framed}
use Rattle.calls.specs.Checks.{fresh_verdict, post_verdict, frame_verdict}
use Rattle.calls.proofs.Verdicts.{held_tables, fresh_accepted, fresh_notice_lem, PostFits, post_accepted, post_notice_lem, FrameFits, frame_accepted, frame_notice_lem}

-- ---- what is held, as one thing
pub held_same : {r r' : Run} {w w' p p' s s' d d' : List ℕ} → r ≡ r' → w ≡ w' → p ≡ p' → s ≡ s' → d ≡ d' → held r w p s d ≡ held r' w' p' s' d'
held_same {r' = r'} {w = w} {w' = w'} {p = p} {p' = p'} {s = s} {s' = s'} {d = d} er ew ep es ed =
    ap (λ x. held x w p s d) er ∙ ap (λ x. held r' x p s d) ew ∙ ap (λ x. held r' w' x s d) ep ∙ ap (λ x. held r' w' p' x d) es ∙ ap (λ x. held r' w' p' s' x) ed

-- the record after an accepted call, and after a refused one
pub accepted_record : {v : Verdict} (new old : Run) → v ≡ Accepted → record_after v new old ≡ new
unfolding record_after
accepted_record new old e = rw e refl

pub refused_record : {v : Verdict} {x : Refusal} (new old : Run) → v ≡ Refused x → old ≡ record_after v new old
unfolding record_after
refused_record new old e = rw e refl

-- ---- fresh
module _ (n l limit rule : ℕ) (h : Held) {v : Verdict} (is : v ≡ fresh_verdict n l limit rule (length h.waiting) (length h.posted) (length h.sent) (length h.dropped)) where
  pub fresh_refused : {x : Refusal} → v ≡ Refused x → Freshened n l limit rule h (held (record_after v (fresh_run n l limit rule) h.run) h.waiting h.posted h.sent h.dropped) v
  fresh_refused e =
      subst (λ r. Freshened n l limit rule h (held r h.waiting h.posted h.sent h.dropped) v) (refused_record (fresh_run n l limit rule) h.run e)
      (promise_refused is (fresh_notice_lem n l limit rule (length h.waiting) (length h.posted) (length h.sent) (length h.dropped)) h e)

  pub fresh_room : v ≡ Accepted → Tables n h.waiting h.posted h.sent h.dropped
  fresh_room e = let a = fresh_accepted n l limit rule h (sym is ∙ e) in held_tables a.0.sizes.nodes a.1

  pub fresh_done : v ≡ Accepted → {waiting posted sent dropped : List ℕ} → waiting ≡ zeroed n h.waiting → posted ≡ zeroed n h.posted → sent ≡ zeroed n h.sent → dropped ≡ zeroed n h.dropped →
      Freshened n l limit rule h (held (record_after v (fresh_run n l limit rule) h.run) waiting posted sent dropped) v
  fresh_done e w p s d =
      promise_done is (fresh_notice_lem n l limit rule (length h.waiting) (length h.posted) (length h.sent) (length h.dropped)) h _ e
      (held_same (accepted_record (fresh_run n l limit rule) h.run e) w p s d)

-- ---- post
module _ (arrivals : List ℕ) (h : Held) {v : Verdict} (is : v ≡ post_verdict arrivals h) where
  pub post_refused : {x : Refusal} → v ≡ Refused x → Posted arrivals h (held (record_after v (post_run h.run) h.run) h.waiting h.posted h.sent h.dropped) v
  post_refused e =
      subst (λ r. Posted arrivals h (held r h.waiting h.posted h.sent h.dropped) v) (refused_record (post_run h.run) h.run e)
      (promise_refused is (post_notice_lem arrivals h) h e)

  pub post_fits : v ≡ Accepted → PostFits arrivals h
  post_fits e = post_accepted arrivals h (sym is ∙ e)

  pub post_done : v ≡ Accepted → {waiting posted dropped : List ℕ} → waiting ≡ queued h.run.nodes h.run.limit arrivals h.waiting → posted ≡ increased h.run.nodes arrivals h.posted →
      dropped ≡ overflowed h.run.nodes h.run.limit arrivals h.waiting h.dropped →
      Posted arrivals h (held (record_after v (post_run h.run) h.run) waiting posted h.sent dropped) v
  post_done e w p d = promise_done is (post_notice_lem arrivals h) h _ e (held_same (accepted_record (post_run h.run) h.run e) w p refl d)

-- the sums that a post makes fit: no pair had more than 65,535 a post, and there were fewer than 1,000,000 posts
module _ {arrivals : List ℕ} {h : Held} (fits : PostFits arrivals h) where
  tables : Tables h.run.nodes h.waiting h.posted h.sent h.dropped
  tables = held_tables fits.ranges.sizes.nodes fits.long_enough

  pub post_adds : Adds h.run.nodes h.posted arrivals
  post_adds = record {
    room = tables.postings;
    given = fits.given;
    fits = λ p lt. omega (arith, fits.balanced.books p lt, fits.within.most p lt, fits.few);
  }

  pub post_arrives : Arrives h.run.nodes arrivals h.waiting
  post_arrives = record {
    room = tables.queues;
    given = fits.given;
    queues = record { most = λ p lt. omega (arith, fits.balanced.books p lt, fits.ranges.known_limit) };
    within = fits.within;
  }

  pub post_drops : Drops h.run.nodes arrivals h.waiting h.dropped
  post_drops = record { arrives = post_arrives; amounts = tables.drops; few = λ p lt. omega (arith, fits.balanced.books p lt, fits.few) }

-- the count of posts can rise where a post is accepted
pub post_counted : (arrivals : List ℕ) {h h' : Held} {v : Verdict} → Posted arrivals h h' v → v ≡ Accepted → h.run.posts < 1000000
post_counted arrivals {h} p e = (post_accepted arrivals h (sym p.answer ∙ e)).few

-- ---- frame
module _ (k : Lent) (h : Held) {v : Verdict} (is : v ≡ frame_verdict h (length k.kept) (length k.withdrawn) (length k.schedule)) where
  pub frame_refused : {x : Refusal} → v ≡ Refused x →
      Framed k k h (held (record_after (Refused x) (frame_run h.run) h.run) h.waiting h.posted h.sent h.dropped) (answer.Refused x)
  frame_refused {x} e =
      subst (λ r. Framed k k h (held r h.waiting h.posted h.sent h.dropped) (answer.Refused x)) (refused_record {v = Refused x} (frame_run h.run) h.run refl)
      (promise_refused (sym e ∙ is) (frame_notice_lem h (length k.kept) (length k.withdrawn) (length k.schedule)) (h, k) refl)

  pub frame_fits : v ≡ Accepted → FrameFits h k
  frame_fits e = frame_accepted h k (sym is ∙ e)

  pub frame_done : v ≡ Accepted → {k' : Lent} {f : Report} {waiting sent : List ℕ} →
      PlanDone h.run.nodes h.run.slots h.run.rule (whole_frame h.run.nodes h.run.slots) h.waiting k k' f →
      waiting ≡ served h.run.nodes k'.kept h.waiting → sent ≡ increased h.run.nodes k'.kept h.sent →
      Framed k k' h (held (record_after Accepted (frame_run h.run) h.run) waiting h.posted sent h.dropped) (answer.Planned f)
  frame_done e {k'} plan w s =
      promise_done (sym e ∙ is) (frame_notice_lem h (length k.kept) (length k.withdrawn) (length k.schedule)) (h, k) (_, k') refl
      (record { plan = plan; after = held_same (accepted_record (frame_run h.run) h.run refl) w refl s refl })

module _ {h : Held} {k : Lent} (fits : FrameFits h k) where
  -- all checks have passed, so that the queues can be planned, each line with the whole frame
  pub frame_room : PlanRoom h.run.nodes h.run.slots h.run.rule (whole_frame h.run.nodes h.run.slots) h.waiting k
  frame_room =
      whole_room fits.ranges.sizes fits.ranges.known_rule fits.long_enough.waiting
      (record { most = λ p lt. omega (arith, fits.balanced.books p lt, fits.ranges.known_limit) })
      fits.tables

  module _ {k' : Lent} {f : Report} (done : PlanDone h.run.nodes h.run.slots h.run.rule (whole_frame h.run.nodes h.run.slots) h.waiting k k' f) where
    kept_square : Square h.run.nodes k'.kept
    kept_square = record { nodes = fits.ranges.sizes.nodes; cells = omega (arith, fits.tables.kept, done.wrote.kept_length) }

    -- no more is kept than waits
    pub frame_takes : Takes h.run.nodes k'.kept h.waiting
    frame_takes = record {
      room = record { nodes = fits.ranges.sizes.nodes; cells = fits.long_enough.waiting };
      given = kept_square;
      below = plan_below_at fits.ranges.known_rule done.wrote.plan;
    }

    -- what was sent and what is kept make up at most what was posted
    pub frame_adds : ((p : ℕ) → get_or h.posted p 0 < 2 ^ 64) → Adds h.run.nodes h.sent k'.kept
    frame_adds small = record {
      room = record { nodes = fits.ranges.sizes.nodes; cells = fits.long_enough.sent };
      given = kept_square;
      fits = λ p lt. omega (arith, fits.balanced.books p lt, plan_below_at fits.ranges.known_rule done.wrote.plan p lt, small p);
    }

-- the count of frames can rise where a frame is accepted
pub frame_counted : {k k' : Lent} {h h' : Held} (r : Answer) → Framed k k' h h' r → verdict_of r ≡ Accepted → h.run.frames < 1000000
frame_counted {k} {h = h} r p e = (frame_accepted h k (sym p.answer ∙ e)).few
