-- `first_wide` meets its contract: no matrix passed has a cell above 65,535. Assumes nothing.
use native.Mathlib.Omega.{arith}
use mathlib.Core.Path.{sym}
use Rattle.star.proofs.RefusalLaws.{found_first}
use Rattle.file_writer.proofs.WideLaws.{matrix_there, within_more, wide_found, wide_none}
use Rattle.file_writer.proofs.writing.first_wide.Goals as goal

pub overflow_add-result : goal.overflow_add-result
overflow_add-result c = omega (arith, (found_first (sym c.in-Some.ensures)).1, matrix_there c.args.n c.args.posts c.args.cells.now c.loop-p.p c.loop-p-test.true c.requires.1)

pub returns-in-Some : goal.returns-in-Some
returns-in-Some c = wide_found c.args.n c.args.posts c.args.cells.now c.loop-p.p c.loop-p-test.true c.requires.1 c.loop-p.invariant (sym c.in-Some.ensures)

pub loop-p-preserved : goal.loop-p-preserved
loop-p-preserved c = within_more c.args.n c.args.posts c.args.cells.now c.loop-p.p c.loop-p-test.true c.requires.1 c.loop-p.invariant (sym c.in_default.ensures)

pub returns : goal.returns
returns c = wide_none c.args.n c.args.posts c.args.cells.now c.loop-p.p (omega arith) c.loop-p.invariant
