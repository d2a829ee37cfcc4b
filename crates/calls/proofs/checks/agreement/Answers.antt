-- `agreement` meets its contract: the first pair whose books disagree is the place. Assumes nothing.
use native.Mathlib.Omega.{arith}
use mathlib.Core.Path.{refl, sym}
use Rattle.sums.proofs.Tables.{mul_small}
use Rattle.star.specs.declared.refusals.Refusal.TheVariants.{BooksDisagree}
use Rattle.star.proofs.RefusalLaws.{found_first, fires_found, passes_found}
use Rattle.calls.specs.Checks.{agreement_verdict}
use Rattle.calls.proofs.checks.agreement.Goals as goal

pub overflow_cast-result : goal.overflow_cast-result
overflow_cast-result c = let n = c.args.old.nodes in
    omega (arith, (found_first (sym c.in-Some.ensures)).1, mul_small n n c.requires.queues.nodes c.requires.queues.nodes)

pub returns-in-Some : goal.returns-in-Some
unfolding agreement_verdict
returns-in-Some c = fires_found _ _ BooksDisagree _ (sym c.in-Some.ensures)

pub returns-in-None : goal.returns-in-None
unfolding agreement_verdict
returns-in-None c = passes_found _ _ _ (sym c.in-None.ensures) refl
