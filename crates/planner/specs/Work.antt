-- What the work of a plan asks once all checks have passed; and what is kept of a demand by the rule, before it is placed into slots.
use Rattle.std.specs.Prelude.{ℕ, ◌*◌, ◌≤◌, ◌<◌, ◌≡◌, List, length, get_or, take, drop, replicate}
use Rattle.sums.specs.Tables.{cell}
use Rattle.star.specs.Tables.{Demands}
use Rattle.star.specs.Lines.{Admissible}
use Rattle.star.specs.Refusals.{Sizes}
use Rattle.star.specs.Rooms.{Square, Capacities}
use Rattle.fair.specs.Fair.{fair_kept}
use Rattle.least.specs.Least.{Greatest, kept_from}
use Rattle.planner.specs.declared.answers.Report.{Report}
use Rattle.planner.specs.Lent.{Lent, lent, LentRoom}
use Rattle.planner.specs.Plans.{PlanDone}

-- what the work of a plan asks, once all checks have passed: numbers in their ranges, no capacity above L, and tables that are long enough
pub record PlanRoom (n l rule : ℕ) (cap d : List ℕ) (k : Lent) : Type 0 where
  pub sizes : Sizes n l
  pub known_rule : rule ≤ 1
  pub demand : n * n ≤ length d
  pub within : Demands n d
  pub lines : 2 * n ≤ length cap
  pub most : (ℓ : ℕ) → ℓ < 2 * n → get_or cap ℓ 0 ≤ l
  pub tables : LentRoom n l k

-- the same over the lent tables one by one
abbrev pub PlanRoomOn : (n l rule : ℕ) (cap d kept withdrawn schedule : List ℕ) → Type 0
PlanRoomOn n l rule cap d kept withdrawn schedule = PlanRoom n l rule cap d (lent kept withdrawn schedule)

abbrev pub PlanDoneOn : (n l rule : ℕ) (cap d kept withdrawn schedule kept' withdrawn' schedule' : List ℕ) (f : Report) → Type 0
PlanDoneOn n l rule cap d kept withdrawn schedule kept' withdrawn' schedule' f = PlanDone n l rule cap d (lent kept withdrawn schedule) (lent kept' withdrawn' schedule') f

-- demands, capacities and tables that are long enough
pub record KeepRoom (n : ℕ) (cap d kept withdrawn : List ℕ) : Type 0 where
  pub some_nodes : 1 ≤ n
  pub demand : Square n d
  pub within : Demands n d
  pub capacities : Capacities n cap
  pub kept_room : n * n ≤ length kept
  pub withdrawn_room : n * n ≤ length withdrawn

-- kept and withdrawn by the rule (0 fair, any other least), their further cells as before; kept is admissible, and at most D at each pair
pub record KeptByRule (n rule : ℕ) (cap d kept withdrawn kept' withdrawn' : List ℕ) : Type 0 where
  pub fair : rule ≡ 0 → (take (n * n) kept' ≡ fair_kept n cap d) × (take (n * n) withdrawn' ≡ replicate (n * n) 0)
  pub least : (rule ≡ 0 → ⊥) → (Greatest n cap d withdrawn') × (take (n * n) kept' ≡ kept_from n cap d withdrawn')
  pub kept_rest : drop (n * n) kept' ≡ drop (n * n) kept
  pub withdrawn_rest : drop (n * n) withdrawn' ≡ drop (n * n) withdrawn
  pub admissible : Admissible n cap kept'
  pub below : (i j : ℕ) → i < n → j < n → cell n kept' i j ≤ cell n d i j
