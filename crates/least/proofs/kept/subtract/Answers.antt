-- `subtract` meets its contract. The loop's invariant: the cells passed hold E, the others are as before. Assumes nothing.
use Prim.Native.Nat.{◌-◌}
use native.Mathlib.Omega.{arith}
use mathlib.Core.Path.{refl, ap, ◌∙◌}
use lib.ListN.{get_or, set}
use Rattle.sums.proofs.Tables.{tab_more}
use Rattle.sums.specs.Tables.{tab}
use Rattle.least.proofs.Remains.{left_written}
use Rattle.least.proofs.kept.subtract.Goals as goal

pub loop-p-init : goal.loop-p-init
unfolding tab
loop-p-init c = refl

pub loop-p-preserved : goal.loop-p-preserved
loop-p-preserved c = let args = c.args in
    let loop = c.loop-p in
    ap (λ o. set o loop.p (get_or args.demand.now loop.p 0 - get_or args.withdrawn.now loop.p 0)) loop.invariant ∙ tab_more (λ q. get_or args.demand.now q 0 - get_or args.withdrawn.now q 0) loop.p args.table.now 0 (omega arith)

pub returns : goal.returns
returns c = c.loop-p.invariant ∙ left_written _ _ _ _ _ (omega arith) c.requires.table_len
