-- The checks of a run's calls by the names of their refusals: the groups that they share, each by itself, and then each call's. The chains in numbers
-- (`fresh_notice`, `post_notice`, `frame_notice`) say the same.
use Rattle.std.specs.Prelude.{ℕ, ◌*◌, List, length}
use Rattle.star.specs.declared.refusals.Refusal.TheVariants.{TableShort, BooksDisagree, CallsSpent}
use Rattle.star.specs.Refusals.{Verdict, Accepted, spent, some_cell}
use Rattle.star.specs.Checks.{refuse, then, ranges_verdict, demand_short_verdict, demand_above_verdict}
use Rattle.planner.specs.Checks.{lent_short_verdict}
use Rattle.calls.specs.Held.{Held, held_short, disagreeing}

-- 5
unfoldable pub held_short_verdict : (n waiting posted sent dropped : ℕ) → Verdict
held_short_verdict n waiting posted sent dropped = refuse (held_short n waiting posted sent dropped) TableShort Accepted

-- 8
unfoldable pub agreement_verdict : (h : Held) → Verdict
agreement_verdict h = refuse (some_cell (h.run.nodes * h.run.nodes) (disagreeing h)) (BooksDisagree (disagreeing h)) Accepted

-- 9, given how often this kind of call was accepted
unfoldable pub count_verdict : (accepted : ℕ) → Verdict
count_verdict accepted = refuse (spent accepted) CallsSpent Accepted

-- ---- the calls, group by group
-- Fresh 1, 2, 3, 7 | 5; the last four numbers say how many cells each table has.
unfoldable pub fresh_verdict : (n l limit rule waiting posted sent dropped : ℕ) → Verdict
fresh_verdict n l limit rule waiting posted sent dropped = then (ranges_verdict n l rule limit) (held_short_verdict n waiting posted sent dropped)

-- Post 1, 2, 3, 7 | 4 | 5 | 8 | 9 | 6.
unfoldable pub post_verdict : (arrivals : List ℕ) (h : Held) → Verdict
post_verdict arrivals h =
    then (ranges_verdict h.run.nodes h.run.slots h.run.rule h.run.limit)
    (then (demand_short_verdict h.run.nodes (length arrivals))
    (then (held_short_verdict h.run.nodes (length h.waiting) (length h.posted) (length h.sent) (length h.dropped))
    (then (agreement_verdict h)
    (then (count_verdict h.run.posts)
    (demand_above_verdict h.run.nodes arrivals)))))

-- Frame 1, 2, 3, 7 | 5 | 5 | 8 | 9; the last three numbers say how many cells kept, withdrawn and schedule have.
unfoldable pub frame_verdict : (h : Held) (kept withdrawn schedule : ℕ) → Verdict
frame_verdict h kept withdrawn schedule =
    then (ranges_verdict h.run.nodes h.run.slots h.run.rule h.run.limit)
    (then (held_short_verdict h.run.nodes (length h.waiting) (length h.posted) (length h.sent) (length h.dropped))
    (then (lent_short_verdict h.run.nodes h.run.slots kept withdrawn schedule)
    (then (agreement_verdict h)
    (count_verdict h.run.frames))))
