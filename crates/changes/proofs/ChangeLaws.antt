-- Reconfigurations: a slot is compared destination by destination, and a setting adds at most one to those of the slots before it. The laws assume nothing.
use mathlib.Core.Path.{◌≡◌, refl, sym, ap, ◌∙◌}
use mathlib.Core.Bool.{Bool, true, false, not}
use mathlib.Core.List.{List}
use Prim.Native.Nat.{ℕ, zero, suc, ◌+◌, ◌-◌, ◌*◌, ◌≤◌, ◌<◌}
use native.Mathlib.Omega.{arith}
use borrow.Author.Tests.{eq-eqb, ne_eqb}
use lib.Dec.{eqb, ltb}
use lib.ListN.{get_or, length}
use native.Mathlib.Nat.{zero-add}
use Rattle.std.specs.Bool.{MatchBool}
use Rattle.std.specs.List.{range_with_len, AllWithin, HoldsAt}
use Rattle.std.proofs.lemmas.List.FromFn.{length-range_with_len, get_or-range_with_len}
use Rattle.sums.specs.Sums.{sum_to, bit}
use Rattle.sums.specs.Tables.{cell}
use Rattle.sums.specs.Searches.{some_below}
use Rattle.sums.proofs.Sums.{sum_ext, sum_more, sum_none, sum_one, sum_run, sum_all_zero}
use Rattle.sums.proofs.Gates.{bit_most}
use Rattle.sums.proofs.Searches.{some_none, some_at}
use Rattle.star.specs.Schedules.{differ, reconfigurations}
use Rattle.changes.specs.Changes.{change_at}

-- ---- a slot is compared destination by destination
pub differ_at : (n : ℕ) (one : List ℕ) (k : ℕ) (other : List ℕ) (m j : ℕ) → j < n → (cell n one k j ≡ cell n other m j → ⊥) → true ≡ differ n one k other m
unfolding differ
differ_at n one k other m j lt ne = sym (some_at (λ u. not (eqb (cell n one k u) (cell n other m u))) n j lt (ap not (ne_eqb (cell n one k j) (cell n other m j) ne)))

pub differ_none : (n : ℕ) (one : List ℕ) (k : ℕ) (other : List ℕ) (m : ℕ) → ((u : ℕ) → u < n → cell n one k u ≡ cell n other m u) → false ≡ differ n one k other m
unfolding differ
differ_none n one k other m same =
    sym (some_none (λ u. not (eqb (cell n one k u) (cell n other m u))) n (λ u hu. ap not (eq-eqb (cell n one k u) (cell n other m u) (same u hu))))

-- what a search of all destinations for one that hears another answers
pub differ_any : (r : Bool) (n : ℕ) (one : List ℕ) (k : ℕ) (other : List ℕ) (m : ℕ)
    → MatchBool r ((q : ℕ) × (q < length (range_with_len 0 n)) × HoldsAt (λ j. cell n one k j ≡ cell n other m j → ⊥) (range_with_len 0 n) q)
    (AllWithin (λ j. cell n one k j ≡ cell n other m j) (range_with_len 0 n) 0 (length (range_with_len 0 n)))
    → r ≡ differ n one k other m
differ_any true n one k other m h =
    let lt : h.0 < n = omega (arith, length-range_with_len 0 n, h.1) in
    differ_at n one k other m h.0 lt (rw (get_or-range_with_len 0 n h.0 0 lt, zero-add h.0) at (h.2 0))
differ_any false n one k other m h =
    differ_none n one k other m (λ u hu. rw (get_or-range_with_len 0 n u 0 hu, zero-add u) at (h u 0 (omega arith) (omega (arith, length-range_with_len 0 n))))

-- ---- a setting written from slot t on
some_ext : (m : ℕ) (f g : ℕ → Bool) → ((q : ℕ) → q < m → f q ≡ g q) → some_below m f ≡ some_below m g
unfolding some_below
some_ext zero f g h = refl
some_ext (suc m) f g h = rw (some_ext m f g (λ q lt. h q (omega arith)), h m (omega arith)) refl

-- slots that hear the same differ from the same slots
differ_ext : (n : ℕ) (one other one' other' : List ℕ) (k m k' m' : ℕ) → ((j : ℕ) → j < n → cell n one k j ≡ cell n one' k' j) → ((j : ℕ) → j < n → cell n other m j ≡ cell n other' m' j)
    → differ n one k other m ≡ differ n one' k' other' m'
unfolding differ
differ_ext n one other one' other' k m k' m' e f =
    some_ext n (λ j. not (eqb (cell n one k j) (cell n other m j))) (λ j. not (eqb (cell n one' k' j) (cell n other' m' j)))
    (λ j hj. rw (e j hj, f j hj) refl)

pub change_start : (n : ℕ) (s : List ℕ) (t : ℕ) (setting : List ℕ) {b : Bool} → t ≤ 0 → b ≡ ltb 0 t → bit b ≡ change_at n s t setting
unfolding change_at
change_start n s zero setting le e = ap bit e
change_start n s (suc t) setting le e = absurd (omega arith)

pub change_after : (n : ℕ) (s : List ℕ) (t : ℕ) (setting : List ℕ) {b : Bool} → 0 < t → b ≡ differ n s (t - 1) setting 0 → bit b ≡ change_at n s t setting
unfolding change_at
change_after n s zero setting lt e = absurd (omega arith)
change_after n s (suc t) setting lt e = let same : suc t - 1 ≡ t = omega arith in ap bit (rw same at e)

-- a setting has one slot
setting_cell : (n : ℕ) (setting : List ℕ) (j : ℕ) → cell n setting 0 j ≡ get_or setting j 0
unfolding cell
setting_cell n setting j = let e : 0 * n + j ≡ j = omega arith in ap (λ (x : ℕ). get_or setting x 0) e

-- neighbours among slots that all hold the setting are equal
same_new : (n : ℕ) (u setting : List ℕ) (t h : ℕ) → ((k j : ℕ) → t ≤ k → k < t + h → j < n → cell n u k j ≡ get_or setting j 0) → (k : ℕ) → t ≤ k → suc k < t + h
    → bit (differ n u k u (suc k)) ≡ 0
same_new n u setting t h new k lo hi =
    ap bit (sym (differ_none n u k u (suc k) (λ j hj. new k j lo (omega arith) hj ∙ sym (new (suc k) j (omega arith) hi hj))))

-- the slots from t up to t + h hold the setting, and those before are as they were
pub changes_more : (n : ℕ) (s u setting : List ℕ) (t h : ℕ) → 1 ≤ h
    → ((k j : ℕ) → k < t → j < n → cell n u k j ≡ cell n s k j) → ((k j : ℕ) → t ≤ k → k < t + h → j < n → cell n u k j ≡ get_or setting j 0)
    → reconfigurations n (t + h) u ≡ reconfigurations n t s + change_at n s t setting
unfolding reconfigurations change_at
changes_more n s u setting zero h some old new =
    omega (
      arith,
      sum_all_zero (0 + h - 1) (λ k. bit (differ n u k u (suc k))) (λ k hk. same_new n u setting 0 h new k (omega arith) (omega arith)),
      sum_none (λ k. bit (differ n s k s (suc k))),
    )
changes_more n s u setting (suc t) h some old new =
    let far : suc t + h - 1 ≡ t + 1 + (h - 1) = omega arith in
    let here : bit (differ n u t u (suc t)) ≡ bit (differ n s t setting 0) =
    ap bit (differ_ext n u u s setting t (suc t) t 0 (λ j hj. old t j (omega arith) hj) (λ j hj. new (suc t) j (omega arith) (omega arith) hj ∙ sym (setting_cell n setting j))) in
    let before : sum_to t (λ k. bit (differ n u k u (suc k))) ≡ sum_to t (λ k. bit (differ n s k s (suc k))) =
    sum_ext t (λ k. bit (differ n u k u (suc k))) (λ k. bit (differ n s k s (suc k)))
    (λ k hk. ap bit (differ_ext n u u s s k (suc k) k (suc k) (λ j hj. old k j (omega arith) hj) (λ j hj. old (suc k) j (omega arith) hj))) in
    let first : suc t - 1 ≡ t = omega arith in
    rw (far, first)
    (omega (
      arith,
      sum_run (t + 1) (h - 1) 0 (λ k. bit (differ n u k u (suc k))) (λ k lo hi. same_new n u setting (suc t) h new k (omega arith) (omega arith)),
      sum_more t (λ k. bit (differ n u k u (suc k))),
      here,
      before,
    ))

-- a frame has fewer reconfigurations than slots
pub changes_most : (n t : ℕ) (s : List ℕ) → reconfigurations n t s ≤ t
unfolding reconfigurations
changes_most n t s = omega (arith, sum_one (t - 1) (λ k. bit (differ n s k s (suc k))) (λ k hk. bit_most (differ n s k s (suc k))))

pub change_most : (n : ℕ) (s : List ℕ) (t : ℕ) (setting : List ℕ) → change_at n s t setting ≤ 1
unfolding change_at
change_most n s zero setting = omega arith
change_most n s (suc t) setting = bit_most (differ n s t setting 0)
