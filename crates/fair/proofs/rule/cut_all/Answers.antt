-- `cut_all` takes the steps of the definition, one for each line cut (`Stepped`); where no line is left further steps change nothing. Assumes nothing.
use Rattle.fair.proofs.Rounds.{stepped_start, stepped_comparable, stepped_can, stepped_more, stepped_less, stepped_end}
use native.Mathlib.Omega.{arith}
use Rattle.fair.proofs.rule.cut_all.Goals as goal

pub loop-line-init : goal.loop-line-init
loop-line-init c = stepped_start _ _ _ _ _ _ c.requires

pub next_line-requires : goal.next_line-requires
next_line-requires c = stepped_comparable _ _ _ _ _ _ c.requires c.loop-line.invariant

pub cut_line-requires : goal.cut_line-requires
cut_line-requires c = stepped_can _ _ _ _ _ _ c.requires c.loop-line.invariant c.in-Some.ensures.next c.in-Some.ensures.on_line

pub loop-line-preserved : goal.loop-line-preserved
loop-line-preserved c = stepped_more _ _ _ _ _ _ c.requires c.loop-line.invariant c.in-Some.ensures.next c.in-Some.ensures.on_line c.cut_line.ensures

pub loop-line-smaller : goal.loop-line-smaller
loop-line-smaller c = stepped_less _ _ _ _ _ _ c.requires c.loop-line.invariant c.in-Some.ensures.next c.in-Some.ensures.on_line c.cut_line.ensures

pub returns : goal.returns
returns c = stepped_end _ _ _ _ _ _ c.requires c.loop-line.invariant c.in_default.ensures.next (omega arith)
