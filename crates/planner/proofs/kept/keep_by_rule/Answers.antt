-- `keep_by_rule` meets its contract: each rule's promise gives what is kept. Assumes nothing.
use native.Mathlib.Omega.{arith}
use mathlib.Core.Path.{ap}
use Rattle.star.specs.Rules.{rule_number}
use Rattle.planner.proofs.KeptLaws.{kept_fairly, kept_least}
use Rattle.planner.proofs.kept.keep_by_rule.Goals as goal

pub returns-in-Fair : goal.returns-in-Fair
returns-in-Fair c = kept_fairly _ _ _ _ _ _ _ _ (ap rule_number c.in-Fair.is) c.cut.ensures c.clear.ensures

pub returns-in-Least : goal.returns-in-Least
returns-in-Least c = kept_least _ _ _ _ _ _ _ _ (λ e. omega (arith, e, ap rule_number c.in-Least.is)) c.withdraw.ensures.greatest c.withdraw.ensures.rest c.keep.ensures
