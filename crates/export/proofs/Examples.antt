-- The order of a report, by computation. Assumes nothing.
use mathlib.Core.Path.{◌≡◌, refl}
use mathlib.Core.List.{[], ◌∷◌}
use Rattle.star.specs.declared.refusals.Refusal.TheVariants.{DemandAbove, BooksDisagree, CallsSpent, BadFile}
use Rattle.std.specs.Prelude.{Err}
use Rattle.planner.specs.Plans.{Planned, Refused}
use Rattle.files.specs.Output.{Bytes}
use Rattle.export.specs.Reports.{plan_report, output_report}

-- the place, the kept total, the refused total and the reconfigurations
accepted : plan_report (Planned (record { kept = 7; refused = 8; reconfigurations = 9 })) ≡ 0 ∷ 7 ∷ 8 ∷ 9 ∷ []
accepted = refl

-- a refusal's totals and reconfigurations are zero
above : plan_report (Refused (DemandAbove 3)) ≡ 3 ∷ 0 ∷ 0 ∷ 0 ∷ []
above = refl

books : plan_report (Refused (BooksDisagree 5)) ≡ 5 ∷ 0 ∷ 0 ∷ 0 ∷ []
books = refl

spent : plan_report (Refused CallsSpent) ≡ 0 ∷ 0 ∷ 0 ∷ 0 ∷ []
spent = refl

-- the place and the number of bytes
output_bytes : output_report (Bytes 56) ≡ 0 ∷ 56 ∷ []
output_bytes = refl

output_refused : output_report (Err (BadFile 3)) ≡ 3 ∷ 0 ∷ []
output_refused = refl
