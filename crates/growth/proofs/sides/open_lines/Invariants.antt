use Prim.Native.Nat.{◌+◌}
use lib.ListN.{get_or}
use Rattle.growth.proofs.SetLaws.{Scan}
use Rattle.growth.proofs.sides.open_lines.Given as goal

abbrev pub invariant-loop-k : goal.invariant-loop-k
invariant-loop-k l = Scan (λ m. get_or l.headroom (l.from + m) 0) l.s l.k
