use Rattle.slots.specs.Writing.{WroteSlots}
use Rattle.slots.proofs.writing.write_slots.Given as goal

abbrev pub invariant-loop-k : goal.invariant-loop-k
invariant-loop-k l = WroteSlots l.n l.initial.schedule l.schedule l.bytes l.from l.k
