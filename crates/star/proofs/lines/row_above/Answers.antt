-- `row_above` meets its contract: the running number is that of the cells passed. Assumes nothing.
use Prim.Native.Nat.{◌+◌}
use native.Mathlib.Omega.{arith}
use mathlib.Core.Path.{sym, ap, ◌∙◌}
use lib.Dec.{ltb}
use Rattle.sums.specs.Sums.{bit}
use Rattle.star.proofs.RowSearchLaws.{from_test, above_none, above_more, above_most}
use Rattle.star.proofs.lines.row_above.Goals as goal

pub loop-j-init : goal.loop-j-init
loop-j-init c = sym (above_none _ _ _)

pub overflow_add-count : goal.overflow_add-count
overflow_add-count c = let args = c.args in
    let one = c.from-count.ensures ∙ from_test _ ∙ ap (λ x. bit (ltb 65535 x)) c.get.ensures in
    omega (arith, c.requires.0.nodes, one, c.loop-j.invariant, above_more args.n args.demand.now args.i c.loop-j.j, above_most args.n args.demand.now args.i (c.loop-j.j + 1))

pub loop-j-preserved : goal.loop-j-preserved
loop-j-preserved c = let args = c.args in
    let one = c.from-count.ensures ∙ from_test _ ∙ ap (λ x. bit (ltb 65535 x)) c.get.ensures in
    omega (arith, one, c.loop-j.invariant, above_more args.n args.demand.now args.i c.loop-j.j)
