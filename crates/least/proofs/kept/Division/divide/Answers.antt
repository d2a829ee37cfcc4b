-- `divide` meets its contract. The loop's invariant: the shares and claims of the cells passed are written, and their shares are summed.
-- Assumes nothing.
use Prim.Native.Nat.{◌*◌}
use native.Mathlib.Omega.{arith}
use mathlib.Core.Path.{◌≡◌, sym, ap, ◌∙◌}
use lib.ListN.{get_or}
use Rattle.sums.proofs.Fills.{set_more}
use Rattle.sums.proofs.Sums.{sum_none, sum_more, sum_done}
use Rattle.star.proofs.LineLaws.{line_most}
use Rattle.least.proofs.Shares.{share_is, remainder_is, part_most, share_most, shares_most, shares_and_missing, remainder_fits}
use Rattle.least.specs.Least.{share, remainder}
use Rattle.least.specs.Promises.{claim}
use Rattle.least.proofs.kept.Division.divide.Goals as goal

pub loop-t-init : goal.loop-t-init
loop-t-init c = record { each = λ u h. absurd (omega arith); claimed = λ u h. absurd (omega arith); whole = c.requires.whole; sum = sym (sum_none _) }

pub overflow_mul-part : goal.overflow_mul-part
overflow_mul-part c = let args = c.args in
    omega (arith, ap (λ v. v * get_or args.cap.now args.line 0) c.on_line.ensures, part_most c.requires.line c.loop-t.t c.loop-t-test.true)

pub claim-requires : goal.claim-requires
claim-requires c = let pre = c.requires in
    (remainder_fits _ _ (omega (arith, pre.too_long)) (omega (arith, pre.too_long.0, line_most _ _ _ pre.line.square.nodes pre.line.demands pre.line.line)), omega (arith, pre.line.square))

pub overflow_add-given : goal.overflow_add-given
overflow_add-given c = let args = c.args in
    let pre = c.requires in
    let loop = c.loop-t in
    omega (arith, pre.line.square, loop.invariant.sum, shares_most pre.line loop.t (omega arith), share_is args.n args.cap.now args.table.now args.line loop.t c.on_line.ensures pre.too_long.0, share_most pre.line loop.t c.loop-t-test.true)

pub loop-t-preserved : goal.loop-t-preserved
loop-t-preserved c = let args = c.args in
    let pre = c.requires in
    let loop = c.loop-t in
    let part = share_is args.n args.cap.now args.table.now args.line loop.t c.on_line.ensures pre.too_long.0 in
    let over = remainder_is args.n args.cap.now args.table.now args.line loop.t c.on_line.ensures pre.too_long.0 in
    record {
      each = set_more (share args.n args.cap.now args.table.now args.line) loop.self.shares loop.t _ (omega (arith, pre.line.square)) part loop.invariant.each;
      claimed = set_more (λ u. claim (remainder args.n args.cap.now args.table.now args.line u) u) loop.self.claims loop.t _ (omega (arith, pre.line.square)) (c.claim.ensures ∙ ap (λ r. claim r loop.t) over) loop.invariant.claimed;
      whole = loop.invariant.whole;
      sum = omega (arith, loop.invariant.sum, part, sum_more loop.t (share args.n args.cap.now args.table.now args.line));
    }

pub overflow_sub-self : goal.overflow_sub-self
overflow_sub-self c = let args = c.args in
    let done : c.loop-t.t ≡ args.n = omega arith in
    omega (arith, sum_done _ done c.loop-t.invariant.sum, shares_and_missing args.n args.cap.now args.table.now args.line (omega (arith, c.requires.too_long)))

pub returns : goal.returns
returns c = let args = c.args in
    let done : c.loop-t.t ≡ args.n = omega arith in
    record {
      each = λ u h. c.loop-t.invariant.each u (omega arith);
      claimed = λ u h. c.loop-t.invariant.claimed u (omega arith);
      lacks = omega (arith, sum_done _ done c.loop-t.invariant.sum, shares_and_missing args.n args.cap.now args.table.now args.line (omega (arith, c.requires.too_long)));
    }
