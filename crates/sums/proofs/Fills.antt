-- Tables written front to back: what a loop has written so far, read, stored one cell further, and at the end. The laws assume nothing.
use Prim.Native.Nat.{ℕ, suc, ◌+◌, ◌<◌}
use native.Mathlib.Omega.{arith}
use mathlib.Core.Path.{◌≡◌, refl, sym, ◌∙◌, ap}
use mathlib.Core.List.{List, ◌++◌, append-nil}
use lib.ListN.{length, get_or, drop, set, replicate, length-set, length-replicate, get_or-replicate, drop_of_length-le}
use lib.Seq.{ext_get_or, get_or_at, drop-cons, get_or-set_same, get_or-set_other}
use Rattle.sums.specs.Tables.{tab, written}
use Rattle.sums.proofs.Cases.{by_eq}
use Rattle.sums.proofs.Tables.{length_tab, tab_at, tab_more, written_at}

-- the first p cells of old are written by the rule f, and t is the table now
pub record Filled (p : ℕ) (f : ℕ → ℕ) (old t : List ℕ) : Type 0 where
  pub so_far : t ≡ tab p f ++ drop p old
  pub same_size : length t ≡ length old

pub filled_none : (f : ℕ → ℕ) (old : List ℕ) → Filled 0 f old old
unfolding tab
filled_none f old = record { so_far = refl; same_size = refl }

-- the cell that comes next is as it was
pub filled_next : {p : ℕ} {f : ℕ → ℕ} {old t : List ℕ} → Filled p f old t → p < length old → get_or t p 0 ≡ get_or old p 0
filled_next {p} {f} {old} {t} h lt =
    ap (λ x. get_or x p 0) (h.so_far ∙ ap (λ x. tab p f ++ x) (drop-cons old p 0 lt)) ∙ get_or_at (tab p f) (get_or old p 0) (drop (suc p) old) 0 p (length_tab f p)

-- it is written
pub filled_more : {p : ℕ} {f : ℕ → ℕ} {old t : List ℕ} (x : ℕ) → Filled p f old t → p < length old → x ≡ f p → Filled (p + 1) f old (set t p x)
filled_more {p} {f} {old} {t} x h lt e = record {
  so_far = rw (h.so_far, e) (tab_more f p old 0 lt);
  same_size = length-set t p x ∙ h.same_size;
}

-- all m cells are written
pub filled_all : {p : ℕ} {f : ℕ → ℕ} {old t : List ℕ} (m : ℕ) → Filled p f old t → p ≡ m → t ≡ written m (tab m f) old
unfolding written
filled_all {p} {f} {old} {t} m h e = h.so_far ∙ ap (λ x. tab x f ++ drop x old) e

-- a table of one number
pub tab_same : (m x : ℕ) → tab m (λ p. x) ≡ replicate m x
tab_same m x =
    ext_get_or 0 (tab m (λ p. x)) (replicate m x) (length_tab (λ p. x) m ∙ sym (length-replicate m x)) (λ i h.
    let lt : i < m = omega (arith, length_tab (λ p. x) m) in
    tab_at (λ p. x) m i 0 lt ∙ sym (get_or-replicate m i x 0 lt))

-- a cell that is written
pub begun_at : (f : ℕ → ℕ) (m : ℕ) (o : List ℕ) (t : ℕ) → t < m → get_or (tab m f ++ drop m o) t 0 ≡ f t
unfolding written
begun_at f m o t h = written_at m (tab m f) o (length_tab f m) t h ∙ tab_at f m t 0 h

-- the same of a whole table, where it is cleared and where it is a copy
pub cleared_at : (m : ℕ) (t o : List ℕ) → t ≡ written m (replicate m 0) o → (k : ℕ) → k < m → get_or t k 0 ≡ 0
cleared_at m t o e k h = ap (λ x. get_or x k 0) e ∙ written_at m (replicate m 0) o (length-replicate m 0) k h ∙ get_or-replicate m k 0 0 h

pub copied_at : (m : ℕ) (s t o : List ℕ) → t ≡ written m (tab m (λ p. get_or s p 0)) o → (k : ℕ) → k < m → get_or t k 0 ≡ get_or s k 0
unfolding written
copied_at m s t o e k h = ap (λ x. get_or x k 0) e ∙ begun_at (λ p. get_or s p 0) m o k h

-- a store to the next cell, where only the cells written so far are known
pub set_more : (f : ℕ → ℕ) (t : List ℕ) (i x : ℕ) → i < length t → x ≡ f i → ((k : ℕ) → k < i → get_or t k 0 ≡ f k) → (k : ℕ) → k < i + 1 → get_or (set t i x) k 0 ≡ f k
set_more f t i x lt e before k h =
    by_eq k i
    (λ q. rw (q, get_or-set_same t i x 0 lt) e)
    (λ ne. get_or-set_other t i k x 0 ne ∙ before k (omega arith))

-- a table that is written to its end
pub tab_whole : (f : ℕ → ℕ) (t o : List ℕ) (p : ℕ) → p ≡ length o → t ≡ tab p f ++ drop p o → t ≡ tab (length o) f
tab_whole f t o p e h = h ∙ rw (e, drop_of_length-le o {i = length o} (omega arith), append-nil (tab (length o) f))
