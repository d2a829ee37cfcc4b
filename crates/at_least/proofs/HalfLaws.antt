-- Halves: a new one is empty, and two make the sets of all rows. The laws assume nothing.
use mathlib.Core.Path.{◌≡◌, sym, ap, ◌∙◌}
use mathlib.Core.List.{List}
use Prim.Native.Nat.{ℕ, ◌+◌, ◌-◌, ◌≤◌, ◌<◌, min}
use native.Mathlib.Nat.{zero-add}
use native.Mathlib.Omega.{arith}
use native.Mathlib.Decide.{dec_lt}
use lib.ListN.{get_or, replicate, length-replicate, get_or-replicate}
use Rattle.nodes.specs.Sets.{member}
use Rattle.nodes.proofs.Members.{member_none}
use Rattle.at_least.specs.AtLeast.{AtLeast}
use Rattle.at_least.specs.Halves.{CanAdd, RowsAdded, HalvesJoined}

-- a half of zeros is empty
pub fresh_half : {n from to : ℕ} → n ≤ 64 → from ≤ to → to ≤ n → to ≤ from + 32 → CanAdd n (replicate 64 0) from to
fresh_half {n} nodes begins ends few = record {
  begins = begins;
  ends = ends;
  few = few;
  room = omega (arith, length-replicate {A = ℕ} 64 0);
  none = λ j hj. rw (get_or-replicate {A = ℕ} 64 j 0 0 (omega arith)) (record { out = member_none });
}

-- ---- a row below 32 is in the low half, and any other in the high half
pub halves_at_least : {n : ℕ} {table : List ℕ} {x : ℕ} {low high sets : List ℕ} {middle : ℕ} → middle ≡ min n 32
    → RowsAdded n table x low 0 middle → RowsAdded n table x high middle n → HalvesJoined low high sets n → AtLeast n table x sets
halves_at_least {n} {table} {x} {low} {high} {sets} {middle} m l h p =
    let above : (i : ℕ) → 32 ≤ i → i < n → middle + (i - 32) ≡ i = λ i le lt. omega arith in
    let joined : (i j : ℕ) → 32 ≤ i → j < n → member i (get_or sets j 0) ≡ member (i - 32) (get_or high j 0) =
    λ i j le hj.
    let e : i ≡ i - 32 + 32 = omega arith in
    ap (λ (a : ℕ). member a (get_or sets j 0)) e ∙ (p.all j hj).upper (i - 32) in
    record {
      all = λ j hj. record {
        in' = λ i hi st. elim (dec_lt i 32) [
          | yes lt ↦ (p.all j hj).lower i lt ∙ l.in' i j (omega arith) hj (rw (zero-add i) st)
          | no nl ↦ let e = above i (omega arith) hi in joined i j (omega arith) hj ∙ h.in' (i - 32) j (omega (arith, e)) hj (rw e st)
        ];
        out = λ i hi st. elim (dec_lt i 32) [
          | yes lt ↦ rw (zero-add i) at (l.out i j hj (sym ((p.all j hj).lower i lt) ∙ st)).1
          | no nl ↦ rw (above i (omega arith) hi) at (h.out (i - 32) j hj (sym (joined i j (omega arith) hj) ∙ st)).1
        ];
      };
    }
