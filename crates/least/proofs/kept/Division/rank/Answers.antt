-- `rank` meets its contract. The loop's invariant: the cells passed with a larger claim are counted. Assumes nothing.
use Prim.Native.Nat.{ℕ, ◌+◌, ◌≤◌, ◌<◌}
use native.Mathlib.Omega.{arith}
use mathlib.Core.Path.{◌≡◌, sym, ap, ◌∙◌}
use mathlib.Core.List.{List}
use lib.Dec.{ltb}
use lib.ListN.{length, get_or, take}
use Rattle.std.specs.Int.{from_bool}
use Rattle.std.proofs.lemmas.List.{length-take, get_or-take}
use Rattle.sums.proofs.Gates.{bit_most}
use Rattle.star.proofs.RowSearchLaws.{from_test}
use Rattle.sums.proofs.Sums.{sum_none, sum_more, sum_done}
use Rattle.sums.specs.Sums.{sum_to, bit}
use Rattle.least.specs.Promises.{outranking}
use Rattle.least.proofs.kept.Division.rank.Goals as goal

-- one claim more of the first n is compared
counted_more : (n own : ℕ) (claims : List ℕ) {k s r : ℕ} → k < length (take n claims) → (s ≡ sum_to k (λ u. bit (ltb own (get_or claims u 0)))) × (s ≤ k) →
    r ≡ from_bool (ltb own (get_or (take n claims) k 0)) → (s + r ≡ sum_to (k + 1) (λ u. bit (ltb own (get_or claims u 0)))) × (s + r ≤ k + 1)
counted_more n own claims {k} {s} {r} h so_far e =
    let item = get_or-take n claims k 0 (omega (arith, length-take n claims)) in
    let one : r ≡ bit (ltb own (get_or claims k 0)) = e ∙ from_test _ ∙ ap (λ x. bit (ltb own x)) item in
    (omega (arith, one, so_far, sum_more k (λ u. bit (ltb own (get_or claims u 0)))), omega (arith, one, so_far, bit_most (ltb own (get_or claims k 0))))

pub loop-claim-init : goal.loop-claim-init
loop-claim-init c = (sym (sum_none _), omega arith)

pub loop-claim-preserved : goal.loop-claim-preserved
loop-claim-preserved c = counted_more _ _ _ c.loop-claim-test.true c.loop-claim.invariant c.from-count.ensures

pub returns : goal.returns
unfolding outranking
returns c = let done : c.loop-claim.claim-index ≡ c.args.n = omega (arith, length-take c.args.n c.args.self.now.claims) in sum_done _ done c.loop-claim.invariant.0
