use Rattle.number_list.proofs.InputLaws.{Reading}
use Rattle.number_list.proofs.read.Given as goal

abbrev pub invariant-loop-b : goal.invariant-loop-b
invariant-loop-b l = Reading l.input l.b-index l.digits l.value l.count l.table
