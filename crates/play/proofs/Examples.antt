-- The entries that events are, by computation. Assumes nothing.
use mathlib.Core.Path.{◌≡◌, refl}
use mathlib.Core.List.{[], ◌∷◌}
use Rattle.star.specs.declared.refusals.Refusal.TheVariants.{Nodes, TableShort}
use Rattle.star.specs.Refusals.{Accepted}
use Rattle.star.proofs.RefusalLaws.{never}
use Rattle.planner.specs.declared.answers.Report.{Report}
use Rattle.planner.specs.Plans.{Planned}
use Rattle.planner.specs.Lent.{Lent}
use Rattle.run.specs.Histories.{posting, framing, restarting}
use Rattle.files.specs.Format.{post, frame}
use Rattle.play.specs.Plays.{told, AllAccepted, more}

report : Report
report = record { kept = 3; refused = 0; reconfigurations = 1 }

tables : Lent
tables = record { kept = []; withdrawn = []; schedule = [] }

-- the latest event stands first in a history, and the last entry last in a file
in_order : told (framing tables tables (Planned report) ∷ posting (5 ∷ []) Accepted ∷ posting (4 ∷ []) Accepted ∷ []) ≡ post (4 ∷ []) ∷ post (5 ∷ []) ∷ frame ∷ []
unfolding told
in_order = refl

-- a refused fresh start is no entry, and no event of a played file
no_entry : told (restarting 0 1 1 0 Nodes ∷ posting (4 ∷ []) Accepted ∷ []) ≡ post (4 ∷ []) ∷ []
unfolding told
no_entry = refl

not_accepted : AllAccepted (restarting 1 1 1 0 TableShort ∷ []) → ⊥
not_accepted (more _ _ e _) = never e
