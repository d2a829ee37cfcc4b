-- The checks of a plan by the names of their refusals; `plan_notice` says them in numbers.
use Rattle.std.specs.Prelude.{ℕ, List, length}
use Rattle.star.specs.declared.refusals.Refusal.TheVariants.{TableShort}
use Rattle.star.specs.Refusals.{Verdict, Accepted}
use Rattle.star.specs.Checks.{refuse, then, sizes_verdict, rule_verdict, demand_short_verdict, demand_above_verdict}
use Rattle.planner.specs.Lent.{lent_short}

-- 5
unfoldable pub lent_short_verdict : (n l kept withdrawn schedule : ℕ) → Verdict
lent_short_verdict n l kept withdrawn schedule = refuse (lent_short n l kept withdrawn schedule) TableShort Accepted

-- Plan 1, 2 | 3 | 4 | 5 | 6: N, L, the rule, the demand, and how many cells each table has that is to be written.
unfoldable pub plan_verdict : (n l rule : ℕ) (d : List ℕ) (kept withdrawn schedule : ℕ) → Verdict
plan_verdict n l rule d kept withdrawn schedule =
    then (sizes_verdict n l)
    (then (rule_verdict rule)
    (then (demand_short_verdict n (length d))
    (then (lent_short_verdict n l kept withdrawn schedule)
    (demand_above_verdict n d))))
