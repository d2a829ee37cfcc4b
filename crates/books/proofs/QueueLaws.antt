-- A table that was made anew: what each pair's cell holds, that it is as long as before, and that two made of what is alike are alike. Assumes
-- nothing.
use Prim.Native.Nat.{ℕ, ◌+◌, ◌-◌, ◌*◌, ◌≤◌, ◌<◌, min}
use mathlib.Core.Path.{◌≡◌, refl, sym, ◌∙◌, ap}
use mathlib.Core.List.{List}
use lib.ListN.{length, get_or}
use Rattle.sums.specs.Tables.{cell, tab, written}
use Rattle.sums.proofs.Tables.{cell_lt, length_tab, tab_at, tab_ext, written_at, written_first, written_room, written_length}
use Rattle.sums.proofs.Fills.{tab_same}
use Rattle.star.specs.Tables.{Alike}
use Rattle.star.proofs.AlikeLaws.{alike_at}
use Rattle.books.specs.Queues.{zeroed, renewed, increased, overflowed, queued, served}

module _ (n : ℕ) (f : ℕ → ℕ) (old : List ℕ) where
  pub renewed_at : (p : ℕ) → p < n * n → get_or (renewed n f old) p 0 ≡ f p
  renewed_at p h = written_at (n * n) (tab (n * n) f) old (length_tab f (n * n)) p h ∙ tab_at f (n * n) p 0 h

  pub renewed_cell : (i j : ℕ) → i < n → j < n → cell n (renewed n f old) i j ≡ f (i * n + j)
  unfolding cell
  renewed_cell i j hi hj = renewed_at (i * n + j) (cell_lt n i j hi hj)

  pub renewed_room : n * n ≤ length (renewed n f old)
  renewed_room = written_room (n * n) (tab (n * n) f) old (length_tab f (n * n))

  pub renewed_length : n * n ≤ length old → length (renewed n f old) ≡ length old
  renewed_length = written_length (n * n) (tab (n * n) f) old (length_tab f (n * n))

pub renewed_alike : (n : ℕ) (f g : ℕ → ℕ) (x y : List ℕ) → ((p : ℕ) → p < n * n → f p ≡ g p) → Alike (n * n) (renewed n f x) (renewed n g y)
renewed_alike n f g x y same = record {
  first_room = renewed_room n f x;
  second_room = renewed_room n g y;
  cells =
      written_first (n * n) (tab (n * n) f) x (length_tab f (n * n))
      ∙ tab_ext (n * n) f g same
      ∙ sym (written_first (n * n) (tab (n * n) g) y (length_tab g (n * n)));
}

-- a table at a fresh start is made anew too
pub zeroed_renewed : (n : ℕ) (table : List ℕ) → zeroed n table ≡ renewed n (λ p. 0) table
unfolding zeroed
zeroed_renewed n table = ap (λ new. written (n * n) new table) (sym (tab_same (n * n) 0))

-- ---- each table's change: as long as before, where it has a cell for each pair
module _ (n : ℕ) where
  pub zeroed_length : (table : List ℕ) → n * n ≤ length table → length (zeroed n table) ≡ length table
  zeroed_length table h = ap length (zeroed_renewed n table) ∙ renewed_length n (λ p. 0) table h

  pub increased_length : (added : List ℕ) (amounts : List ℕ) → n * n ≤ length amounts → length (increased n added amounts) ≡ length amounts
  unfolding increased
  increased_length added amounts h = renewed_length n _ amounts h

  pub overflowed_length : (limit : ℕ) (arrivals waiting : List ℕ) (dropped : List ℕ) → n * n ≤ length dropped → length (overflowed n limit arrivals waiting dropped) ≡ length dropped
  unfolding overflowed
  overflowed_length limit arrivals waiting dropped h = renewed_length n _ dropped h

  pub queued_length : (limit : ℕ) (arrivals : List ℕ) (waiting : List ℕ) → n * n ≤ length waiting → length (queued n limit arrivals waiting) ≡ length waiting
  unfolding queued
  queued_length limit arrivals waiting h = renewed_length n _ waiting h

  pub served_length : (kept : List ℕ) (waiting : List ℕ) → n * n ≤ length waiting → length (served n kept waiting) ≡ length waiting
  unfolding served
  served_length kept waiting h = renewed_length n _ waiting h

-- ---- what is made of tables that are alike is alike
module _ (n : ℕ) where
  pub zeroed_alike : (x y : List ℕ) → Alike (n * n) (zeroed n x) (zeroed n y)
  zeroed_alike x y = rw (zeroed_renewed n x, zeroed_renewed n y) (renewed_alike n (λ p. 0) (λ p. 0) x y (λ p h. refl))

  module _ {a b : List ℕ} (given : Alike (n * n) a b) {x y : List ℕ} (old : Alike (n * n) x y) where
    pub increased_alike : Alike (n * n) (increased n a x) (increased n b y)
    unfolding increased
    increased_alike = renewed_alike n _ _ x y (λ p h. rw (alike_at old p h, alike_at given p h) refl)

    pub queued_alike : (limit : ℕ) → Alike (n * n) (queued n limit a x) (queued n limit b y)
    unfolding queued
    queued_alike limit = renewed_alike n _ _ x y (λ p h. rw (alike_at old p h, alike_at given p h) refl)

    pub served_alike : Alike (n * n) (served n a x) (served n b y)
    unfolding served
    served_alike = renewed_alike n _ _ x y (λ p h. rw (alike_at old p h, alike_at given p h) refl)

    pub overflowed_alike : (limit : ℕ) {d e : List ℕ} → Alike (n * n) d e → Alike (n * n) (overflowed n limit a x d) (overflowed n limit b y e)
    unfolding overflowed
    overflowed_alike limit {d} {e} dropped = renewed_alike n _ _ d e (λ p h. rw (alike_at dropped p h, alike_at old p h, alike_at given p h) refl)

-- ---- each table's change, pair by pair
module _ (n : ℕ) (i j : ℕ) (hi : i < n) (hj : j < n) where
  pub zeroed_cell : (table : List ℕ) → cell n (zeroed n table) i j ≡ 0
  zeroed_cell table = ap (λ t. cell n t i j) (zeroed_renewed n table) ∙ renewed_cell n (λ p. 0) table i j hi hj

  pub increased_cell : (added amounts : List ℕ) → cell n (increased n added amounts) i j ≡ cell n amounts i j + cell n added i j
  unfolding increased cell
  increased_cell added amounts = renewed_cell n (λ p. get_or amounts p 0 + get_or added p 0) amounts i j hi hj

  pub overflowed_cell : (limit : ℕ) (arrivals waiting dropped : List ℕ) →
      cell n (overflowed n limit arrivals waiting dropped) i j ≡ cell n dropped i j + (cell n waiting i j + cell n arrivals i j - limit)
  unfolding overflowed cell
  overflowed_cell limit arrivals waiting dropped = renewed_cell n (λ p. get_or dropped p 0 + (get_or waiting p 0 + get_or arrivals p 0 - limit)) dropped i j hi hj

  pub queued_cell : (limit : ℕ) (arrivals waiting : List ℕ) → cell n (queued n limit arrivals waiting) i j ≡ min (cell n waiting i j + cell n arrivals i j) limit
  unfolding queued cell
  queued_cell limit arrivals waiting = renewed_cell n (λ p. min (get_or waiting p 0 + get_or arrivals p 0) limit) waiting i j hi hj

  pub served_cell : (kept waiting : List ℕ) → cell n (served n kept waiting) i j ≡ cell n waiting i j - cell n kept i j
  unfolding served cell
  served_cell kept waiting = renewed_cell n (λ p. get_or waiting p 0 - get_or kept p 0) waiting i j hi hj
