use Rattle.slots.proofs.WriteLaws.{Writing}
use Rattle.slots.proofs.writing.write_slot.Given as goal

abbrev pub invariant-loop-j : goal.invariant-loop-j
invariant-loop-j l = Writing l.n l.initial.schedule l.schedule l.bytes l.k l.j
