-- Which refusal is given, in document 01's numbers: each check by itself, and each with the next one in the order; by computation. Assumes nothing.
use Prim.Native.Nat.{ℕ}
use mathlib.Core.Path.{◌≡◌, refl}
use mathlib.Core.List.{List, [], ◌∷◌}
use lib.IntN.{ℤ, pos, negsuc}
use Rattle.sums.specs.Sums.{sum_to}
use Rattle.sums.specs.Searches.{first_below, first_from}
use Rattle.sums.specs.Tables.{cell, tab, written}
use Rattle.star.specs.Refusals.{Verdict, Accepted, Notice, notice, notice_of, first_above}
use Rattle.star.specs.Lines.{slack, whole_frame, line_sum, on_line, source_on, destination_on}
use Rattle.star.specs.Checks.{sizes_verdict, demand_short_verdict, demand_above_verdict, refuse, then}
use Rattle.slacks.specs.Slacks.{SlacksResult}
use Rattle.slacks.specs.Checks.{slacks_verdict}

abbrev given : (n l : ℕ) (d : List ℕ) (cells : ℕ) → Notice
given n l d cells = notice_of (slacks_verdict n l d cells)

pub record Refusals : Type 0 where
  -- case o: N 0 and L 0 together: 1. N 65: 1. L 1,025: 2.
  pub no_nodes : given 0 0 [] 0 ≡ notice 1 0
  pub many_nodes : given 65 4 [] 0 ≡ notice 1 0
  pub many_slots : given 1 1025 [] 2 ≡ notice 2 0
  -- 2 before 4
  pub no_slots : given 1 0 [] 0 ≡ notice 2 0
  -- 4 before 5
  pub short_demand : given 1 4 [] 0 ≡ notice 4 0
  pub demand_of_three : given 2 4 (1 ∷ 1 ∷ 1 ∷ []) 4 ≡ notice 4 0
  -- 5 before 6
  pub short_table : given 1 4 (65536 ∷ []) 1 ≡ notice 5 0
  pub above : given 2 4 (65535 ∷ 0 ∷ 65536 ∷ 65536 ∷ []) 4 ≡ notice 6 2
  -- An accepted call reports number 0 and place 0. A longer table is accepted; its extra cells are not read.
  pub fits : given 2 4 (65535 ∷ 65535 ∷ 65535 ∷ 65535 ∷ []) 4 ≡ notice 0 0
  pub longer : given 1 1024 (65535 ∷ 70000 ∷ []) 3 ≡ notice 0 0

pub refusals : Refusals
unfolding slacks_verdict sizes_verdict demand_short_verdict demand_above_verdict then refuse first_above first_below first_from
refusals = record {
  no_nodes = refl;
  many_nodes = refl;
  many_slots = refl;
  no_slots = refl;
  short_demand = refl;
  demand_of_three = refl;
  short_table = refl;
  above = refl;
  fits = refl;
  longer = refl;
}

-- rows first, then columns; sum equal to L has slack 0; the cell beyond the 2N is as before
written_slacks : (table' : List ℤ) (v : Verdict) → SlacksResult 2 4 (3 ∷ 1 ∷ 3 ∷ 0 ∷ []) (pos 9 ∷ pos 9 ∷ pos 9 ∷ pos 9 ∷ pos 9 ∷ []) table' v → v ≡ Accepted →
    table' ≡ pos 0 ∷ pos 1 ∷ negsuc 1 ∷ pos 3 ∷ pos 9 ∷ []
unfolding written tab slack whole_frame line_sum on_line source_on destination_on sum_to cell
written_slacks table' v x ok = x.accepted ok
