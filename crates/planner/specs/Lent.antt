-- The three tables that are lent to a plan.
use Rattle.std.specs.Prelude.{ℕ, ◌*◌, ◌≤◌, Bool, ◌||◌, List, length}
use Rattle.star.specs.Refusals.{short}

-- the three tables that a plan writes
pub record Lent : Type 0 where
  pub kept : List ℕ
  pub withdrawn : List ℕ
  pub schedule : List ℕ

abbrev pub lent : (kept withdrawn schedule : List ℕ) → Lent
lent kept withdrawn schedule = record { kept = kept; withdrawn = withdrawn; schedule = schedule }

-- any of them too short, given how many cells each has
abbrev pub lent_short : (n l kept withdrawn schedule : ℕ) → Bool
lent_short n l kept withdrawn schedule = short kept (n * n) || short withdrawn (n * n) || short schedule (l * n)

-- the three tables have the cells that a plan writes
pub record LentRoom (n l : ℕ) (k : Lent) : Type 0 where
  pub kept : n * n ≤ length k.kept
  pub withdrawn : n * n ≤ length k.withdrawn
  pub schedule : l * n ≤ length k.schedule
