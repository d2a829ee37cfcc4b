-- `cut_line` cuts a line and keeps all sums: after t turns the line is cut as far as its first t pairs (`Partway`). Assumes nothing.
use Prim.Native.Nat.{◌<◌}
use lib.ListN.{get_or}
use Rattle.star.specs.Lines.{crossing}
use Rattle.fair.proofs.Partway.{partway_start, partway_pass, partway_turn, b_within, line_uncut, sum_fits, own_b, can_cut_cell, line_cut}
use Rattle.star.proofs.CrossingLaws.{crossing_lt}
use native.Mathlib.Omega.{arith}
use mathlib.Core.Path.{◌≡◌}
use Rattle.fair.proofs.line.cut_line.Goals as goal
use Rattle.fair.proofs.line.cut_line.Goals.{then-done-crossing-eq0, else-done-crossing-eq0}

pub loop-t-init : goal.loop-t-init
loop-t-init c = partway_start _ _ _ _ _ _ _

pub bounds-done-crossing : goal.bounds-done-crossing
bounds-done-crossing c = omega (arith, c.crossing.ensures, crossing_lt c.args.n c.args.line c.loop-t.t c.requires.smallest.line c.loop-t-test.true, c.requires.sound.flags)

pub cut_cell-sum-requires : goal.cut_cell-sum-requires
cut_cell-sum-requires c = can_cut_cell _ _ _ _ _ _ _ c.requires c.loop-t.invariant c.loop-t-test.true (rw c.crossing.ensures at c.if-done-crossing-eq0.true)

pub overflow_add-sum : goal.overflow_add-sum
overflow_add-sum c =
    let turn = partway_turn _ _ _ _ _ _ _ c.requires c.loop-t.invariant c.loop-t-test.true (rw c.crossing.ensures at c.if-done-crossing-eq0.true) c.cut_cell-sum.ensures in
    omega (arith, sum_fits _ _ _ _ _ _ _ c.requires turn (omega arith), c.requires.capacities.most c.args.line c.requires.smallest.line)

pub loop-t-preserved : goal.loop-t-preserved
loop-t-preserved c =
    elim c.if-done-crossing-eq0.branch [
      | then-done-crossing-eq0 w ↦ rw (w.kept-is, w.sums-is, w.sum-is) (partway_turn _ _ _ _ _ _ _ c.requires c.loop-t.invariant c.loop-t-test.true (rw c.crossing.ensures at w.if-done-crossing-eq0.true) w.cut_cell-sum.ensures)
      | else-done-crossing-eq0 w ↦ let cut : 0 < get_or c.args.done.now (crossing c.args.n c.args.line c.loop-t.t) 0 = omega (arith, rw c.crossing.ensures at w.if-done-crossing-eq0.false) in
          rw (w.kept-is, w.sums-is, w.sum-is) (partway_pass c.loop-t.invariant c.requires.smallest.line c.loop-t-test.true (line_uncut _ _ _ _ _ _ _ c.requires) cut)
    ]

pub overflow_add-sums : goal.overflow_add-sums
overflow_add-sums c =
    omega (
      arith,
      own_b _ _ _ _ _ _ _ c.requires c.loop-t.invariant (omega arith),
      sum_fits _ _ _ _ _ _ _ c.requires c.loop-t.invariant (omega arith),
      b_within _ _ _ _ _ _ _ c.requires c.args.line c.requires.smallest.line,
      c.requires.capacities.most c.args.line c.requires.smallest.line,
    )

pub returns : goal.returns
returns c = let done : c.loop-t.t ≡ c.args.n = omega arith in line_cut _ _ _ _ _ _ _ c.requires (rw done at c.loop-t.invariant)
