-- What a call answers that writes bytes: how many it wrote, or the refusal.
use Rattle.std.specs.Prelude.{ℕ, Result, Ok, Err}
use Rattle.star.specs.declared.refusals.Refusal.{Refusal}
use Rattle.star.specs.Refusals.{Verdict, verdict_of}

abbrev pub Output : Type 0
Output = Result ℕ Refusal

abbrev pub Bytes : (length : ℕ) → Output
Bytes k = Ok k

-- The number and the place of such an answer are those of its verdict.
abbrev pub output_verdict : Output → Verdict
output_verdict r = verdict_of r

-- A refusal writes nothing.
abbrev pub output_length : Output → ℕ
output_length (Ok k) = k
output_length (Err r) = 0
