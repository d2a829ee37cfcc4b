-- `first_bad` meets its contract: no entry passed is bad. Assumes nothing.
use native.Mathlib.Omega.{arith}
use mathlib.Core.Path.{sym}
use Rattle.sums.proofs.Searches.{first_at, first_none, found_some, found_none}
use Rattle.files.specs.Reading.{entry_bad, first_bad}
use Rattle.files.proofs.reading.first_bad.Goals as goal

pub returns-then-entry_bad : goal.returns-then-entry_bad
unfolding first_bad
returns-then-entry_bad c = rw (first_at (entry_bad c.args.n c.args.entries c.args.file.now) c.args.entries c.loop-e.e c.loop-e-test.true c.loop-e.invariant (sym c.if-entry_bad.ensures)) (sym (found_some _ _ c.loop-e-test.true))

pub returns : goal.returns
unfolding first_bad
returns c = sym (found_none _ _ (omega (arith, first_none (entry_bad c.args.n c.args.entries c.args.file.now) c.args.entries (λ k h. c.loop-e.invariant k (omega arith)))))
