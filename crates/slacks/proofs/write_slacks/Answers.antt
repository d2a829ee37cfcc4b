-- `write_slacks` meets its contract: the loop has written the slacks of the lines passed from the front, each from its sum. Assumes nothing.
use Prim.Native.Nat.{◌<◌, ◌*◌}
use native.Mathlib.Omega.{arith}
use mathlib.Core.List.{◌++◌}
use mathlib.Core.Path.{◌≡◌, refl, ap, ap₂, ◌∙◌}
use lib.IntN.{pos, sub_ℕ}
use lib.ListN.{drop, set}
use mir.ValLaws.{to_z-of_z}
use mir.Val.{to_z, of_z}
use mir.Syntax.{w32}
use Rattle.sums.proofs.Tables.{tab_more}
use Rattle.sums.specs.Tables.{tab, written}
use Rattle.star.specs.Lines.{slack}
use Rattle.star.proofs.LineLaws.{line_most}
use Rattle.slacks.proofs.write_slacks.Goals as goal

pub loop-line-init : goal.loop-line-init
unfolding tab
loop-line-init c = refl

pub slack-requires : goal.slack-requires
slack-requires c = let args = c.args in
    let pre = c.requires in
    let line = c.loop-line.line in
    let inside : line < 2 * args.n = omega arith in
    (pre.capacities.0.most line inside, omega (arith, c.line_sums.ensures.lines line inside, line_most args.n args.demand.now line pre.square.0.nodes pre.square.1 inside))

pub loop-line-preserved : goal.loop-line-preserved
unfolding slack
loop-line-preserved c = let args = c.args in
    let loop = c.loop-line in
    let value : to_z w32 (of_z w32 c.slack.result) ≡ slack args.n args.cap.now args.demand.now loop.line
    = to_z-of_z w32 _ (record { sfits = c.slack.type_inv }) ∙ c.slack.ensures ∙ ap (sub_ℕ _) (c.line_sums.ensures.lines _ (omega arith)) in
    ap₂ (λ o v. set o loop.line v) loop.invariant value ∙ tab_more _ loop.line args.table.now (pos 0) (omega arith)

pub returns : goal.returns
unfolding written
returns c = let args = c.args in
    let done : c.loop-line.line ≡ 2 * args.n = omega arith in
    c.loop-line.invariant ∙ ap (λ x. tab x (slack args.n args.cap.now args.demand.now) ++ drop x args.table.now) done
