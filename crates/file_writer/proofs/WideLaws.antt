-- The first cell above 65,535 in the table of all cells, one matrix after the other. Assumes nothing.
use Prim.Native.Nat.{ℕ, ◌+◌, ◌-◌, ◌*◌, ◌≤◌, ◌<◌}
use native.Mathlib.Nat.{mul-le-mul_right}
use native.Mathlib.Omega.{arith}
use mathlib.Core.Path.{◌≡◌, sym, ◌∙◌, ap}
use mathlib.Core.Bool.{true}
use mathlib.Core.List.{List}
use lib.Arith.{digits_lt}
use lib.Dec.{ltb}
use lib.ListN.{length, get_or, take, drop, length-drop}
use lib.Seq.{take-length, get_or-drop}
use borrow.Author.Tests.{le-ltb, ltb-false}
use Rattle.std.specs.Prelude.{None, Some}
use Rattle.sums.specs.Searches.{found}
use Rattle.sums.proofs.Cases.{by_lt}
use Rattle.sums.proofs.Searches.{first_at, first_none, first_before, first_here, found_some, found_none}
use Rattle.star.specs.Refusals.{first_above_in, first_above}
use Rattle.star.proofs.RefusalLaws.{found_first, passed_all}

-- all cells from a place on, as a slice has them
abbrev from : (at : ℕ) (cells : List ℕ) → List ℕ
from at cells = take (length cells - at) (drop at cells)

rest : (at : ℕ) (cells : List ℕ) → from at cells ≡ drop at cells
rest at cells = ap (λ m. take m (drop at cells)) (sym (length-drop at cells)) ∙ take-length (drop at cells)

-- ---- matrix p of so many posts
module _ (n posts : ℕ) (cells : List ℕ) (p : ℕ) (hp : p < posts) (there : posts * (n * n) ≤ length cells) where
  pub matrix_there : p * (n * n) + n * n ≤ length cells
  matrix_there = omega (arith, mul-le-mul_right (n * n) hp)

  -- the matrices before it have no such cell
  module _ (clear : (q : ℕ) → q < p * (n * n) → get_or cells q 0 ≤ 65535) where
    abbrev first : ℕ
    first = first_above_in (n * n) (drop (p * (n * n)) cells)

    within_to : (q : ℕ) → q < p * (n * n) + first → get_or cells q 0 ≤ 65535
    within_to q h =
        by_lt q (p * (n * n))
        (λ lt. clear q lt)
        (λ le.
        let at : p * (n * n) + (q - p * (n * n)) ≡ q = omega arith in
        rw (get_or-drop (p * (n * n)) cells (q - p * (n * n)) 0, at) at
        (ltb-false 65535 (get_or (drop (p * (n * n)) cells) (q - p * (n * n)) 0)
        (first_before (λ q. ltb 65535 (get_or (drop (p * (n * n)) cells) q 0)) (n * n) (q - p * (n * n)) (omega arith))))

    -- it has none either
    pub within_more : found (n * n) (first_above n (from (p * (n * n)) cells)) ≡ None → (q : ℕ) → q < (p + 1) * (n * n) → get_or cells q 0 ≤ 65535
    unfolding first_above
    within_more none q h = within_to q (omega (arith, passed_all (rw (rest (p * (n * n)) cells) at none)))

    -- it has one, at p×N×N + c in the table of all cells
    pub wide_found : {c : ℕ} → found (n * n) (first_above n (from (p * (n * n)) cells)) ≡ Some c → Some (p * (n * n) + c) ≡ found (posts * (n * n)) (first_above_in (posts * (n * n)) cells)
    unfolding first_above
    wide_found {c} some =
        let is = found_first (rw (rest (p * (n * n)) cells) at some) in
        let here : ltb 65535 (get_or (drop (p * (n * n)) cells) c 0) ≡ true
        = ap (λ q. ltb 65535 (get_or (drop (p * (n * n)) cells) q 0)) is.0
        ∙ first_here (λ q. ltb 65535 (get_or (drop (p * (n * n)) cells) q 0)) (n * n) (omega (arith, is.0, is.1)) in
        let at = first_at _ (posts * (n * n)) (p * (n * n) + c) (digits_lt hp is.1)
        (λ q h. le-ltb 65535 (get_or cells q 0) (within_to q (omega (arith, is.0))))
        (rw (get_or-drop (p * (n * n)) cells c 0) at here) in
        sym (found_some _ _ (omega (arith, at, digits_lt hp is.1)) ∙ ap Some at)

-- no matrix has one
pub wide_none : (n posts : ℕ) (cells : List ℕ) (p : ℕ) → p ≡ posts → ((q : ℕ) → q < p * (n * n) → get_or cells q 0 ≤ 65535) → None ≡ found (posts * (n * n)) (first_above_in (posts * (n * n)) cells)
wide_none n posts cells p e clear =
    let all : p * (n * n) ≡ posts * (n * n) = ap (λ x. x * (n * n)) e in
    sym (found_none _ _ (omega (arith, first_none _ (posts * (n * n)) (λ q h. le-ltb 65535 (get_or cells q 0) (clear q (omega (arith, all)))))))
