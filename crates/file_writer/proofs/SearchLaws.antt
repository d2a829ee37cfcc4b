-- The first item of a list that has what a test asks, as an iterator finds it, is the first number at which the test of that item holds. Assumes nothing.
use Prim.Native.Nat.{ℕ}
use native.Mathlib.Omega.{arith}
use mathlib.Core.Path.{◌≡◌, sym}
use mathlib.Core.Bool.{Bool}
use mathlib.Core.List.{List}
use lib.ListN.{length, get_or}
use borrow.Author.Tests.{lt-ltb, le-ltb}
use Rattle.std.specs.Prelude.{position}
use Rattle.std.proofs.lemmas.List.Sums.{position_or_len_is}
use Rattle.sums.specs.Searches.{found, first_below}
use Rattle.sums.proofs.Cases.{by_lt}
use Rattle.sums.proofs.Searches.{first_before, first_here, found_some, found_none}

pub position_found : (test : ℕ → Bool) (xs : List ℕ) → position test xs ≡ found (length xs) (first_below (length xs) (λ k. test (get_or xs k 0)))
position_found test xs =
    by_lt (first_below (length xs) (λ k. test (get_or xs k 0))) (length xs)
    (λ lt.
    let is = position_or_len_is test xs (first_below (length xs) (λ k. test (get_or xs k 0))) 0 (omega arith) (λ k h. first_before (λ k. test (get_or xs k 0)) (length xs) k h) (λ h. first_here (λ k. test (get_or xs k 0)) (length xs) h) in
    rw (is, lt-ltb _ _ lt) (sym (found_some _ _ lt)))
    (λ le.
    let is = position_or_len_is test xs (length xs) 0 (omega arith) (λ k h. first_before (λ k. test (get_or xs k 0)) (length xs) k (omega arith)) (λ h. absurd (omega arith)) in
    rw (is, le-ltb (length xs) (length xs) (omega arith)) (sym (found_none _ _ le)))
