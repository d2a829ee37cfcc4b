-- `slacks` meets its contract: nothing is written after a refusal, and all checks passed give the work its room. Assumes nothing.
use Prim.Native.Nat.{◌*◌}
use native.Mathlib.Omega.{arith}
use mathlib.Core.Path.{refl, sym, ap, ◌∙◌}
use lib.ListN.{length-replicate}
use lib.Seq.{length-take-le}
use Rattle.sums.specs.Tables.{tab, written}
use Rattle.star.specs.Lines.{slack}
use Rattle.star.proofs.LineLaws.{whole_frame_lem, whole_frame_fits}
use Rattle.star.proofs.RefusalLaws.{raised, promise_refused, promise_done}
use Rattle.slacks.proofs.SlackLaws.{slacks_notice_lem, slacks_fits}
use Rattle.slacks.proofs.slacks.Goals as goal

pub returns-in_err-slacks_verdict : goal.returns-in_err-slacks_verdict
returns-in_err-slacks_verdict c = let is = raised _ c.from_residual.ensures.1 in
    promise_refused (is ∙ sym c.in_err-slacks_verdict.was ∙ c.slacks_verdict.ensures) (slacks_notice_lem _ _ _ _) _ is

pub slice_bounds-cap-end : goal.slice_bounds-cap-end
slice_bounds-cap-end c = let g = slacks_fits _ _ _ _ (sym c.slacks_verdict.ensures ∙ c.in_ok-slacks_verdict.was) in omega (arith, g.sizes.nodes)

pub slice_bounds-write_slacks-end : goal.slice_bounds-write_slacks-end
slice_bounds-write_slacks-end c = let g = slacks_fits _ _ _ _ (sym c.slacks_verdict.ensures ∙ c.in_ok-slacks_verdict.was) in sym (length-take-le _ _ (omega (arith, length-replicate 128 c.args.slots, g.sizes.nodes)))

pub write_slacks-requires : goal.write_slacks-requires
write_slacks-requires c = let a = c.args in
    let g = slacks_fits _ _ _ _ (sym c.slacks_verdict.ensures ∙ c.in_ok-slacks_verdict.was) in
    record { square = (g.demand, g.within); capacities = (rw (whole_frame_lem a.nodes a.slots g.sizes.nodes) (whole_frame_fits _ _ g.sizes.slots), g.lines) }

pub returns : goal.returns
returns c = let a = c.args in
    let ok = sym c.slacks_verdict.ensures ∙ c.in_ok-slacks_verdict.was in
    let g = slacks_fits _ _ _ _ ok in
    promise_done (sym ok) (slacks_notice_lem _ _ _ _) _ _ refl
    (c.write_slacks.ensures ∙ ap (λ cap. written (2 * a.nodes) (tab (2 * a.nodes) (slack a.nodes cap a.demand.now)) a.table.now) (whole_frame_lem a.nodes a.slots g.sizes.nodes))
