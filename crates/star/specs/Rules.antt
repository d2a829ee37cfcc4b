-- The two rules by which a demand is cut to its capacities, and what the number of a rule gives.
use Rattle.std.specs.Prelude.{ℕ, ◌≡◌, Result, IfOk}
use Rattle.star.specs.declared.refusals.Refusal.{Refusal}
use Rattle.star.specs.declared.rules.Rule.{Rule}
use Rattle.star.specs.declared.rules.Rule.TheVariants.{Fair, Least}
use Rattle.star.specs.Refusals.{verdict_of}
use Rattle.star.specs.Checks.{rule_verdict}

-- the rule: 0 fair, 1 least
abbrev pub rule_number : Rule → ℕ
rule_number Fair = 0
rule_number Least = 1

-- what a number gives: the rule with this number, or the refusal of any other number
pub record RuleOf (number : ℕ) (answer : Result Rule Refusal) : Type 0 where
  pub verdict : verdict_of answer ≡ rule_verdict number
  pub rule : IfOk answer (λ r. rule_number r ≡ number)
