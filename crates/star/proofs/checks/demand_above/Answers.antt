-- `demand_above` meets its contract: the first cell above is the place. Assumes nothing.
use native.Mathlib.Omega.{arith}
use mathlib.Core.Path.{refl, sym}
use Rattle.sums.proofs.Tables.{mul_small}
use Rattle.star.specs.Checks.{demand_above_verdict}
use Rattle.star.specs.declared.refusals.Refusal.TheVariants.{DemandAbove}
use Rattle.star.proofs.RefusalLaws.{found_first, fires_found, passes_found}
use Rattle.star.proofs.checks.demand_above.Goals as goal

pub overflow_cast-result : goal.overflow_cast-result
overflow_cast-result c = omega (arith, (found_first (sym c.in-Some.ensures)).1, mul_small c.args.n c.args.n (omega arith) (omega arith))

pub returns-in-Some : goal.returns-in-Some
unfolding demand_above_verdict
returns-in-Some c = fires_found _ _ DemandAbove _ (sym c.in-Some.ensures)

pub returns-in-None : goal.returns-in-None
unfolding demand_above_verdict
returns-in-None c = passes_found _ _ _ (sym c.in-None.ensures) refl
