-- `first_disagreeing` meets its contract: the books of every pair passed agree. Assumes nothing.
use Prim.Native.Nat.{◌+◌, ◌*◌}
use native.Mathlib.Omega.{arith}
use mathlib.Core.Path.{◌≡◌, sym, ap, ◌∙◌}
use mathlib.Core.Bool.{not}
use lib.Arith.{digits_lt}
use Rattle.sums.proofs.Searches.{first_at, first_none, found_some, found_none}
use Rattle.books.specs.Books.{first_disagreeing}
use Rattle.books.proofs.agreement.Books.first_disagreeing.Goals as goal

pub returns-then-not-agree_at : goal.returns-then-not-agree_at
unfolding first_disagreeing
returns-then-not-agree_at c =
    let at = first_at _ (c.args.n * c.args.n) (c.loop-i.i * c.args.n + c.loop-j.j) (omega (arith, digits_lt c.loop-i-test.true c.loop-j-test.true)) (λ q h. ap not (c.loop-j.invariant q h)) (ap not (sym c.agree_at.ensures ∙ c.if-not-agree_at.true)) in
    sym (found_some _ _ (omega (arith, at, digits_lt c.loop-i-test.true c.loop-j-test.true)) ∙ rw at)

pub returns : goal.returns
unfolding first_disagreeing
returns c =
    let whole : c.loop-i.i ≡ c.args.n = omega arith in
    sym (found_none _ _ (omega (arith, first_none _ (c.args.n * c.args.n) (λ q h. ap not (c.loop-i.invariant q (rw whole h))))))
