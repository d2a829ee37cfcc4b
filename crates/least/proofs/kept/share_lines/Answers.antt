-- `share_lines` meets its contract. The loop's invariant: the lines passed are cut, `Cutting`. Assumes nothing.
use native.Mathlib.Omega.{arith}
use mathlib.Core.Path.{◌∙◌}
use Rattle.star.proofs.LineLaws.{demands_below}
use Rattle.least.proofs.Cutting.{still, cutting_more, cutting_past, cutting_below, cutting_all}
use Rattle.least.proofs.kept.share_lines.Goals as goal
use Rattle.least.proofs.kept.share_lines.Goals.{then-sums-line, else-sums-line}

pub share_line-requires : goal.share_line-requires
share_line-requires c = let pre = c.requires in
    let loop = c.loop-line in
    record {
      line = record {
        square = record { nodes = pre.nodes; cells = omega (arith, pre.exact) };
        demands = demands_below _ _ _ pre.demands (cutting_below loop.invariant);
        capacities = pre.capacities;
        line = omega arith;
      };
      too_long = (still loop.invariant _ pre.summed pre.apart (omega arith) c.if-sums-line.true, c.if-sums-line.true);
    }

pub loop-line-preserved : goal.loop-line-preserved
loop-line-preserved c =
    let pre = c.requires in
    let loop = c.loop-line in
    elim c.if-sums-line.branch [
      | then-sums-line w ↦ rw w.table-is (cutting_more loop.invariant _ pre.summed pre.apart (omega arith) w.if-sums-line.true _ w.share_line.ensures)
      | else-sums-line w ↦ rw w.table-is (cutting_past loop.invariant _ pre.summed (omega arith) (omega (arith, w.if-sums-line.false)))
    ]

pub returns : goal.returns
returns c = cutting_all _ _ (omega arith) c.requires.apart (c.loop-line.auto.table ∙ c.requires.exact) c.loop-line.invariant
