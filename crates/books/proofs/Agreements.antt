-- When the books of a pair agree: each of the three conditions, tested in exact arithmetic. The laws assume nothing.
use Prim.Native.Nat.{ℕ, ◌+◌, ◌*◌, ◌≤◌, ◌<◌}
use native.Mathlib.Omega.{arith}
use mathlib.Core.Path.{◌≡◌, refl, ◌∙◌, ap}
use mathlib.Core.Bool.{Bool, true, false, ◌&&◌, not}
use mathlib.Core.List.{List}
use lib.ListN.{get_or}
use lib.Dec.{leb}
use borrow.Author.Tests.{le-leb, leb-true, eq-eqb, eqb-true, not-false}
use Rattle.sums.proofs.Searches.{first_before, first_none}
use Rattle.books.specs.Books.{agree, books_agree, first_disagreeing}

module _ (limit posts waiting posted sent dropped : ℕ) where
  -- the amounts add up, and it is left to compare posted with what can have been posted
  pub balanced : waiting ≤ limit → posted ≡ waiting + sent + dropped → agree limit posts waiting posted sent dropped ≡ leb posted (65535 * posts)
  balanced h e = simp (le-leb waiting limit h, eq-eqb posted (waiting + sent + dropped) e)

-- what books that agree say
pub record Agree (limit posts waiting posted sent dropped : ℕ) : Type 0 where
  pub short_enough : waiting ≤ limit
  pub balance : posted ≡ waiting + sent + dropped
  pub possible : posted ≤ 65535 * posts

both_of : {a b : Bool} → (a && b) ≡ true → (a ≡ true) × (b ≡ true)
both_of {a = true} e = (refl, e)
both_of {a = false} e = let z : ◌≡◌ {A = ℕ} 0 1 = cc in absurd (omega arith)

module _ {limit posts waiting posted sent dropped : ℕ} where
  agree_says : agree limit posts waiting posted sent dropped ≡ true → Agree limit posts waiting posted sent dropped
  agree_says e =
      let a = both_of e in
      let b = both_of a.1 in
      record { short_enough = leb-true waiting limit a.0; balance = eqb-true posted (waiting + sent + dropped) b.0; possible = leb-true posted (65535 * posts) b.1 }

  agree_holds : Agree limit posts waiting posted sent dropped → agree limit posts waiting posted sent dropped ≡ true
  agree_holds h = balanced limit posts waiting posted sent dropped h.short_enough h.balance ∙ le-leb posted (65535 * posts) h.possible

-- ---- all pairs
module _ (n limit posts : ℕ) (waiting posted sent dropped : List ℕ) where
  -- where no pair's books disagree, each pair's agree
  pub agreeing : n * n ≤ first_disagreeing n limit posts waiting posted sent dropped →
      (p : ℕ) → p < n * n → Agree limit posts (get_or waiting p 0) (get_or posted p 0) (get_or sent p 0) (get_or dropped p 0)
  unfolding first_disagreeing books_agree
  agreeing none p h = agree_says (not-false _ (first_before (λ q. not (books_agree limit posts waiting posted sent dropped q)) (n * n) p (omega arith)))

  -- where each pair's agree, no pair's disagree
  pub none_disagreeing : ((p : ℕ) → p < n * n → Agree limit posts (get_or waiting p 0) (get_or posted p 0) (get_or sent p 0) (get_or dropped p 0)) →
      first_disagreeing n limit posts waiting posted sent dropped ≡ n * n
  unfolding first_disagreeing books_agree
  none_disagreeing all = first_none _ (n * n) (λ p h. ap not (agree_holds (all p h)))
