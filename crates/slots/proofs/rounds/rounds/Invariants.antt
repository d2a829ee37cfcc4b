use Prim.Native.Nat.{◌-◌}
use Rattle.slots.proofs.RoundLaws.{Rounding}
use Rattle.slots.proofs.rounds.rounds.Given as goal

abbrev pub invariant-loop-t : goal.invariant-loop-t
invariant-loop-t l = Rounding l.n l.r l.initial.table l.initial.may l.initial.source l.initial.destination l.initial.bytes l.initial.schedule l.table l.may l.source l.destination l.bytes l.schedule l.turn l.changes l.t

abbrev pub decreases-loop-t : goal.decreases-loop-t
decreases-loop-t l = l.r - l.t
