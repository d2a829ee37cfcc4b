use Rattle.holds.proofs.HearLaws.{Hearing}
use Rattle.holds.proofs.settings.hear.Given as goal

abbrev pub invariant-loop-j : goal.invariant-loop-j
invariant-loop-j l = Hearing l.n l.table l.source l.bytes l.most l.h l.j
