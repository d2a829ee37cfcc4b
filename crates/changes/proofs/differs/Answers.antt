-- `changes::differs` meets its contract: the search goes over all destinations. Assumes nothing.
use native.Mathlib.Omega.{arith}
use mathlib.Core.Path.{◌≡◌, refl}
use borrow.Author.Rules.{rules}
use borrow.Author.Tests.{tests}
use Rattle.std.proofs.lemmas.Iterator.{cases_from_any, YieldsList-from_range}
use Rattle.sums.specs.Tables.{cell}
use Rattle.changes.proofs.ChangeLaws.{differ_any}
use Rattle.changes.proofs.differs.Goals as goal

pub returns : goal.returns
returns c =
    let n = c.args.n in
    let one = c.args.one.now in
    let other = c.args.other.now in
    differ_any c.any.result n one c.args.k other c.args.m
    (cases_from_any _ _ _ (λ j. cell n one c.args.k j ≡ cell n other c.args.m j → ⊥) (λ j. cell n one c.args.k j ≡ cell n other c.args.m j) c.any.ensures.ran
    (YieldsList-from_range 0 n n refl (omega arith)) (λ x q k. search (rules, tests)) (λ x q k. search (rules, tests)))
