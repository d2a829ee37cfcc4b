use Prim.Native.Nat.{ℕ, ◌<◌}
use mathlib.Core.Path.{◌≡◌}
use lib.ListN.{get_or}
use Rattle.sums.specs.Sums.{sum_to}
use Rattle.least.specs.Least.{share, remainder}
use Rattle.least.specs.Promises.{claim}
use Rattle.least.proofs.kept.Division.divide.Given as goal

abbrev pub invariant-loop-t : goal.invariant-loop-t
invariant-loop-t l = record {
  each : (u : ℕ) → u < l.t → get_or l.self.shares u 0 ≡ share l.n l.cap l.table l.line u;
  claimed : (u : ℕ) → u < l.t → get_or l.self.claims u 0 ≡ claim (remainder l.n l.cap l.table l.line u) u;
  whole : l.self.missing ≡ get_or l.cap l.line 0;
  sum : l.given ≡ sum_to l.t (share l.n l.cap l.table l.line);
}
