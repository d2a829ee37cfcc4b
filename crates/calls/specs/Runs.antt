-- The entries `fresh`, `post` and `frame`: which refusal each gives, in which order, and what is held then.
use Rattle.std.specs.Prelude.{ℕ, ◌*◌, ◌≡◌, ◌||◌, List, length}
use Rattle.star.specs.Refusals.{Verdict, Notice, accepted, check, Promise, nodes_out, slots_out, rule_out, limit_out, short, spent, some_cell, first_above, verdict_of}
use Rattle.star.specs.Lines.{whole_frame}
use Rattle.planner.specs.declared.answers.Report.{Report}
use Rattle.planner.specs.Plans.{Answer, report_of, PlanDone}
use Rattle.planner.specs.Lent.{Lent, lent, lent_short}
use Rattle.calls.specs.declared.record.Run.{Run}
use Rattle.calls.specs.Held.{Held, held, after_fresh, after_post, after_frame, held_short, disagreeing}
use Rattle.calls.specs.Checks.{fresh_verdict, post_verdict, frame_verdict}

-- ---- fresh
-- Fresh 1, 2, 3, 7, 5, in document 01's numbers and each with its place; the last four numbers say how many cells each table has.
unfoldable pub fresh_notice : (n l limit rule waiting posted sent dropped : ℕ) → Notice
fresh_notice n l limit rule waiting posted sent dropped =
    check (nodes_out n) 1 0
    (check (slots_out l) 2 0
    (check (rule_out rule) 3 0
    (check (limit_out limit) 7 0
    (check (held_short n waiting posted sent dropped) 5 0
    accepted))))

-- what `fresh` promises
abbrev pub Freshened : (n l limit rule : ℕ) (h h' : Held) (v : Verdict) → Type 0
Freshened n l limit rule h h' v =
    Promise v (fresh_verdict n l limit rule (length h.waiting) (length h.posted) (length h.sent) (length h.dropped))
    (fresh_notice n l limit rule (length h.waiting) (length h.posted) (length h.sent) (length h.dropped))
    h h' (h' ≡ after_fresh n l limit rule h)

-- ---- post
-- Post and frame check and use the values in the record. Post 1, 2, 3, 7, 4, 5, 8, 9, 6.
unfoldable pub post_notice : (arrivals : List ℕ) (h : Held) → Notice
post_notice arrivals h =
    check (nodes_out h.run.nodes) 1 0
    (check (slots_out h.run.slots) 2 0
    (check (rule_out h.run.rule) 3 0
    (check (limit_out h.run.limit) 7 0
    (check (short (length arrivals) (h.run.nodes * h.run.nodes)) 4 0
    (check (held_short h.run.nodes (length h.waiting) (length h.posted) (length h.sent) (length h.dropped)) 5 0
    (check (some_cell (h.run.nodes * h.run.nodes) (disagreeing h)) 8 (disagreeing h)
    (check (spent h.run.posts) 9 0
    (check (some_cell (h.run.nodes * h.run.nodes) (first_above h.run.nodes arrivals)) 6 (first_above h.run.nodes arrivals)
    accepted))))))))

-- what `post` promises
abbrev pub Posted : (arrivals : List ℕ) (h h' : Held) (v : Verdict) → Type 0
Posted arrivals h h' v = Promise v (post_verdict arrivals h) (post_notice arrivals h) h h' (h' ≡ after_post arrivals h)

-- ---- frame
-- Frame 1, 2, 3, 7, 5, 8, 9; the last three numbers say how many cells kept, withdrawn and schedule have.
unfoldable pub frame_notice : (h : Held) (kept withdrawn schedule : ℕ) → Notice
frame_notice h kept withdrawn schedule =
    check (nodes_out h.run.nodes) 1 0
    (check (slots_out h.run.slots) 2 0
    (check (rule_out h.run.rule) 3 0
    (check (limit_out h.run.limit) 7 0
    (check
    (held_short h.run.nodes (length h.waiting) (length h.posted) (length h.sent) (length h.dropped)
    || lent_short h.run.nodes h.run.slots kept withdrawn schedule)
    5 0
    (check (some_cell (h.run.nodes * h.run.nodes) (disagreeing h)) 8 (disagreeing h)
    (check (spent h.run.frames) 9 0
    accepted))))))

-- A frame plans with D = waiting and writes kept, withdrawn and schedule, each line with the whole frame; what is kept is sent.
pub record FrameDone (k k' : Lent) (h h' : Held) (f : Report) : Type 0 where
  pub plan : PlanDone h.run.nodes h.run.slots h.run.rule (whole_frame h.run.nodes h.run.slots) h.waiting k k' f
  pub after : h' ≡ after_frame k'.kept h

-- what `frame` promises
abbrev pub Framed : (k k' : Lent) (h h' : Held) (r : Answer) → Type 0
Framed k k' h h' r =
    Promise {S = Held × Lent} (verdict_of r) (frame_verdict h (length k.kept) (length k.withdrawn) (length k.schedule))
    (frame_notice h (length k.kept) (length k.withdrawn) (length k.schedule))
    (h, k) (h', k') (FrameDone k k' h h' (report_of r))

-- ---- the same over the record and the lent tables one by one: first those at entry, then those at exit
abbrev pub FreshOn : (n l limit rule : ℕ) (run : Run) (waiting posted sent dropped : List ℕ) (run' : Run) (waiting' posted' sent' dropped' : List ℕ) (v : Verdict) → Type 0
FreshOn n l limit rule run waiting posted sent dropped run' waiting' posted' sent' dropped' v =
    Freshened n l limit rule (held run waiting posted sent dropped) (held run' waiting' posted' sent' dropped') v

-- a post changes nothing that was sent
abbrev pub PostOn : (arrivals : List ℕ) (run : Run) (waiting posted sent dropped : List ℕ) (run' : Run) (waiting' posted' dropped' : List ℕ) (v : Verdict) → Type 0
PostOn arrivals run waiting posted sent dropped run' waiting' posted' dropped' v =
    Posted arrivals (held run waiting posted sent dropped) (held run' waiting' posted' sent dropped') v

-- a frame changes nothing that was posted or dropped
abbrev pub FrameOn : (run : Run) (waiting posted sent dropped kept withdrawn schedule : List ℕ) (run' : Run) (waiting' sent' kept' withdrawn' schedule' : List ℕ) (r : Answer) → Type 0
FrameOn run waiting posted sent dropped kept withdrawn schedule run' waiting' sent' kept' withdrawn' schedule' r =
    Framed (lent kept withdrawn schedule) (lent kept' withdrawn' schedule') (held run waiting posted sent dropped) (held run' waiting' posted sent' dropped) r
