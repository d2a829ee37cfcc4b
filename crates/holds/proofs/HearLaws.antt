-- What is heard of a pair and for how long, and of all pairs, one destination after the other. The laws assume nothing.
use mathlib.Core.Path.{◌≡◌, ap}
use mathlib.Core.List.{List}
use Prim.Native.Nat.{ℕ, ◌+◌, ◌-◌, ◌≤◌, ◌<◌, min}
use native.Mathlib.Omega.{arith}
use borrow.Author.Count.{below_more}
use borrow.Author.Tests.{lt-ltb, le-ltb}
use lib.ListN.{length, get_or, set}
use Rattle.sums.specs.Tables.{cell}
use Rattle.sums.proofs.Cases.{by_lt}
use Rattle.sums.proofs.Fills.{set_more}
use Rattle.cells.specs.Cells.{padded_in, kept_in}
use Rattle.holds.specs.Holds.{lasting, heard_from, CanHear}

-- ---- how long a pair lasts, and what is heard of it
pub lasting_idle : (padded kept : ℕ) → kept < padded → lasting padded kept ≡ padded - kept
unfolding lasting
lasting_idle padded kept lt = simp (lt-ltb kept padded lt)

pub lasting_due : (padded kept : ℕ) → padded ≤ kept → lasting padded kept ≡ padded
unfolding lasting
lasting_due padded kept le = simp (le-ltb kept padded le)

pub heard_idle : (padded kept i : ℕ) → kept < padded → heard_from padded kept i ≡ 255
unfolding heard_from
heard_idle padded kept i lt = simp (lt-ltb kept padded lt)

pub heard_due : (padded kept i : ℕ) → padded ≤ kept → heard_from padded kept i ≡ i
unfolding heard_from
heard_due padded kept i le = simp (le-ltb kept padded le)

-- ---- what the destinations below j hear, and how long that lasts
pub record Hearing (n : ℕ) (table source bytes : List ℕ) (most h j : ℕ) : Type 0 where
  pub some : 1 ≤ h
  pub within : h ≤ most
  pub lasts : (u : ℕ) → u < j → h ≤ lasting (cell n (padded_in table) (get_or source u 0) u) (cell n (kept_in table) (get_or source u 0) u)
  pub says : (u : ℕ) → u < j → get_or bytes u 0 ≡ heard_from (cell n (padded_in table) (get_or source u 0) u) (cell n (kept_in table) (get_or source u 0) u) (get_or source u 0)

module _ {n : ℕ} {table source bytes0 bytes : List ℕ} {most h j : ℕ} (c : CanHear n table source bytes0 most) (fits : j < length bytes) (g : Hearing n table source bytes most h j) (hj : j < n)
    {i a b x y : ℕ} (ei : i ≡ get_or source j 0) (ea : a ≡ cell n (padded_in table) i j) (eb : b ≡ cell n (kept_in table) i j)
    (ex : x ≡ heard_from a b i) (ey : y ≡ lasting a b) where
  heard_here : x ≡ heard_from (cell n (padded_in table) (get_or source j 0) j) (cell n (kept_in table) (get_or source j 0) j) (get_or source j 0)
  heard_here = cc

  lasts_here : y ≡ lasting (cell n (padded_in table) (get_or source j 0) j) (cell n (kept_in table) (get_or source j 0) j)
  lasts_here = cc

  y_some : 1 ≤ y
  y_some =
      by_lt b a
      (λ lt. omega (arith, lasting_idle a b lt))
      (λ le. omega (arith, lasting_due a b le, ap (λ (z : ℕ). cell n (padded_in table) z j) ei, c.gets j hj))

  says_more : (u : ℕ) → u < j + 1 → get_or (set bytes j x) u 0 ≡ heard_from (cell n (padded_in table) (get_or source u 0) u) (cell n (kept_in table) (get_or source u 0) u) (get_or source u 0)
  says_more =
      set_more (λ u. heard_from (cell n (padded_in table) (get_or source u 0) u) (cell n (kept_in table) (get_or source u 0) u) (get_or source u 0)) bytes j x
      fits heard_here g.says

  pub hear_step : {fewest : ℕ} → fewest ≡ min h y → Hearing n table source (set bytes j x) most fewest (j + 1)
  hear_step {fewest} e = record {
    some = omega (arith, g.some, y_some);
    within = omega (arith, g.within);
    lasts = below_more (λ (u : ℕ). fewest ≤ lasting (cell n (padded_in table) (get_or source u 0) u) (cell n (kept_in table) (get_or source u 0) u)) j
        (λ u hu. omega (arith, g.lasts u hu)) (omega (arith, lasts_here));
    says = says_more;
  }
