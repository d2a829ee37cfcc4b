use Prim.Native.Nat.{ℕ, ◌<◌}
use mathlib.Core.Path.{◌≡◌}
use mathlib.Core.Bool.{false}
use Rattle.files.specs.Reading.{entry_bad}
use Rattle.files.proofs.reading.first_bad.Given as goal

-- no entry passed is bad
abbrev pub invariant-loop-e : goal.invariant-loop-e
invariant-loop-e l = (k : ℕ) → k < l.e → entry_bad l.n l.entries l.file k ≡ false
