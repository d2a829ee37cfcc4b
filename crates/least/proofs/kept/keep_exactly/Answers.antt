-- `keep_exactly` meets its contract: E and the sums of its lines, and its lines cut. Assumes nothing.
use native.Mathlib.Omega.{arith}
use Rattle.least.proofs.Cutting.{left_square, left_demands, can_share, kept_all}
use Rattle.least.proofs.Remains.{withdrawn_below}
use Rattle.least.proofs.kept.keep_exactly.Goals as goal

pub subtract-requires : goal.subtract-requires
subtract-requires c = let pre = c.requires in
    record { square = (pre.0.demand, pre.0.withdrawn); table_len = pre.1; below = withdrawn_below pre.0.greatest.withdrawn }

pub line_sums-requires : goal.line_sums-requires
line_sums-requires c = let pre = c.requires in
    let subtract = c.subtract in
    record { square = left_square pre.0 subtract.ensures; demands = left_demands pre.0 subtract.ensures; room = omega (arith, pre.0.demand.nodes) }

pub share_lines-requires : goal.share_lines-requires
share_lines-requires c = let pre = c.requires in
    can_share pre.0 c.subtract.ensures _ (omega (arith, pre.0.demand.nodes, c.line_sums.auto.sums)) c.line_sums.ensures

pub returns : goal.returns
returns c = kept_all c.requires.0 c.subtract.ensures _ c.share_lines.ensures
