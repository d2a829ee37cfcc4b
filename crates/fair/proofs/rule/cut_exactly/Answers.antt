-- `cut_exactly` starts from the demands with nothing modified, so that the steps end at what the rule keeps. Assumes nothing.
use Rattle.fair.proofs.Rounds.{can_cut_all, copied_kept}
use native.Mathlib.Omega.{arith}
use mathlib.Core.Path.{refl, ◌∙◌}
use Rattle.fair.proofs.rule.cut_exactly.Goals as goal

pub cut_all-requires : goal.cut_all-requires
cut_all-requires c = can_cut_all _ _ _ _ _ c.requires c.copy.ensures _ _ (omega (arith, c.line_sums.auto.sums)) c.line_sums.ensures refl

pub returns : goal.returns
returns c = c.cut_all.ensures ∙ copied_kept _ _ _ _ _ c.requires c.copy.ensures
