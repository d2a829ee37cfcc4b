-- Writing: what the loops over destinations and slots keep, that a setting more keeps what was placed, and what it adds to the
-- reconfigurations. The laws assume nothing.
use mathlib.Core.Path.{◌≡◌, sym, ap, ◌∙◌, subst}
use mathlib.Core.Logic.{◌⊎◌}
use mathlib.Core.List.{List}
use Prim.Native.Nat.{ℕ, ◌+◌, ◌-◌, ◌*◌, ◌≤◌, ◌<◌}
use native.Mathlib.Omega.{arith}
use borrow.Author.Count.{below_more}
use lib.ListN.{length, get_or, set, drop}
use Rattle.sums.specs.Sums.{hit}
use Rattle.sums.specs.Tables.{cell}
use Rattle.sums.proofs.Sums.{sum_ext, sum_run}
use Rattle.sums.proofs.Cases.{by_lt}
use Rattle.sums.proofs.Tables.{set_here, set_row, set_col}
use Rattle.star.specs.Schedules.{ConflictFree, count, reconfigurations}
use Rattle.arrays.proofs.Stores.{beyond_kept, beyond_more}
use Rattle.changes.specs.Changes.{change_at}
use Rattle.changes.proofs.ChangeLaws.{changes_more, change_most}
use Rattle.holds.specs.Holds.{Next}
use Rattle.slots.specs.Writing.{WroteSlots, Extended}
use Rattle.slots.specs.Rounds.{Placed}

-- ---- the destinations below j of slot k are written
pub record Writing (n : ℕ) (s u bytes : List ℕ) (k j : ℕ) : Type 0 where
  pub new : (v : ℕ) → v < j → cell n u k v ≡ get_or bytes v 0
  pub old : (m v : ℕ) → m < k → v < n → cell n u m v ≡ cell n s m v
  pub beyond : drop ((k + 1) * n) u ≡ drop ((k + 1) * n) s

pub write_step : {n : ℕ} {s u bytes : List ℕ} {k j b : ℕ} → k * n + n ≤ length u → j < n → b ≡ get_or bytes j 0 → Writing n s u bytes k j → Writing n s (set u (k * n + j) b) bytes k (j + 1)
write_step {n} {s} {u} {bytes} {k} {j} {b} fits hj eb g = record {
  new = below_more (λ (v : ℕ). cell n (set u (k * n + j) b) k v ≡ get_or bytes v 0) j
      (λ v hv. set_col n u k j b hj k v (omega arith) (λ e. omega arith) ∙ g.new v hv)
      (set_here n u k j b hj (omega arith) ∙ eb);
  old = λ m v hm hv. set_row n u k j b hj m v hv (λ e. omega arith) ∙ g.old m v hm hv;
  beyond = beyond_kept n (k + 1) k j b u (omega arith) hj ∙ g.beyond;
}

-- ---- the slots up to k are written, and slot k
pub fill_step : {n : ℕ} {s u w bytes : List ℕ} {from k : ℕ} → from ≤ k → WroteSlots n s u bytes from k → WroteSlots n u w bytes k (k + 1) → WroteSlots n s w bytes from (k + 1)
fill_step {n = n} {s = s} {u = u} {k = k} le g b = record {
  new = λ m v lo hi hv. by_lt m k
      (λ less. b.old m v less hv ∙ g.new m v lo less hv)
      (λ ge. b.new m v ge hi hv);
  old = λ m v hm hv. b.old m v (omega arith) hv ∙ g.old m v hm hv;
  beyond = b.beyond ∙ beyond_more n k (k + 1) u s (omega arith) g.beyond;
}

-- the slot that is written is the next one
pub slot_here : {n : ℕ} {s u bytes : List ℕ} {k at : ℕ} → at ≡ k → WroteSlots n s u bytes at (at + 1) → WroteSlots n s u bytes k (k + 1)
slot_here {n} {s} {u} {bytes} e wrote = subst (λ m. WroteSlots n s u bytes m (m + 1)) e wrote

-- ---- a run of equal slots more
module _ {n : ℕ} {s u bytes : List ℕ} {t : ℕ} (h : ℕ) (w : WroteSlots n s u bytes t (t + h)) where
  pub count_more : (i j : ℕ) → j < n → count n (t + h) u i j ≡ count n t s i j + h * hit (get_or bytes j 0) i
  unfolding count
  count_more i j hj =
      omega (
        arith,
        sum_run t h (hit (get_or bytes j 0) i) (λ k. hit (cell n u k j) i) (λ k lo hi. ap (λ (x : ℕ). hit x i) (w.new k j lo hi hj)),
        sum_ext t (λ k. hit (cell n u k j) i) (λ k. hit (cell n s k j) i) (λ k hk. ap (λ (x : ℕ). hit x i) (w.old k j hk hj)),
      )

  module _ (heard : (j : ℕ) → j < n → (get_or bytes j 0 < n) ⊎ (get_or bytes j 0 ≡ 255))
      (once : (j v : ℕ) → j < n → v < n → get_or bytes j 0 < n → get_or bytes j 0 ≡ get_or bytes v 0 → j ≡ v) where
    pub free_more : ConflictFree n t s → ConflictFree n (t + h) u
    free_more g = record {
      heard = λ k j hk hj. by_lt k t
          (λ lo. subst (λ (x : ℕ). (x < n) ⊎ (x ≡ 255)) (sym (w.old k j lo hj)) (g.heard k j lo hj))
          (λ hi. subst (λ (x : ℕ). (x < n) ⊎ (x ≡ 255)) (sym (w.new k j hi hk hj)) (heard j hj));
      once = λ k j v hk hj hv lt e. by_lt k t
          (λ lo. g.once k j v lo hj hv (omega (arith, w.old k j lo hj)) (sym (w.old k j lo hj) ∙ e ∙ w.old k v lo hv))
          (λ hi. once j v hj hv (omega (arith, w.new k j hi hk hj)) (sym (w.new k j hi hk hj) ∙ e ∙ w.new k v hi hk hv));
    }

-- what was placed up to slot t is placed up to t + h
pub placed_more : {n r t left h : ℕ} {table table' bytes s u : List ℕ} → Next n table table' bytes left h → WroteSlots n s u bytes t (t + h) → Placed n r t table s → Placed n r (t + h) table' u
placed_more {n} {h = h} d w g = record {
  lines = λ ℓ hl. omega (arith, d.lines ℓ hl, g.lines ℓ hl);
  counts = λ i j hi hj. omega (arith, g.counts i j hi hj, d.dues i j hi hj, count_more h w i j hj, ap (λ (x : List ℕ). cell n x i j) d.kept);
  free = free_more h w d.heard d.once g.free;
}

-- ---- a setting in the slots that come next
pub extended : {n : ℕ} {s u setting : List ℕ} {from to more : ℕ} → from < to → more ≡ change_at n s from setting → WroteSlots n s u setting from to → Extended n s u setting from to more
extended {n} {s} {u} {setting} {from} {to} lt e w =
    let far : from + (to - from) ≡ to = omega arith in
    let added : reconfigurations n (from + (to - from)) u ≡ reconfigurations n from s + change_at n s from setting =
    changes_more n s u setting from (to - from) (omega arith) w.old (λ k j lo hi hj. w.new k j lo (omega arith) hj) in
    record {
      wrote = w;
      changes = omega (arith, rw far at added);
      most = omega (arith, change_most n s from setting);
    }
