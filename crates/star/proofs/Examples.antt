-- Document 01's table of refusals, its ranges, and its words on lines and schedules, at their edges: each by computation, so that no definition can be
-- changed together with the code unnoticed. Assumes nothing.
use Prim.Native.Nat.{ℕ, ◌<◌}
use native.Mathlib.Omega.{arith}
use mathlib.Core.Path.{◌≡◌, refl}
use mathlib.Core.Logic.{⊎_elim}
use mathlib.Core.Bool.{true, false}
use mathlib.Core.List.{[], ◌∷◌, map}
use lib.ListN.{replicate}
use lib.IntN.{pos, negsuc}
use Rattle.sums.specs.Sums.{sum_to, hit}
use Rattle.sums.specs.Searches.{first_below, first_from, some_below}
use Rattle.sums.specs.Tables.{cell, tab, square}
use Rattle.star.specs.declared.refusals.Refusal.TheVariants.{Nodes, Slots, Rule, DemandShort, TableShort, DemandAbove, QueueLimit, BooksDisagree, CallsSpent, BadFile}
use Rattle.star.specs.Lines.{source_on, destination_on, on_line, line_sum, total, whole_frame, slack, overflows, excess, critical, Admissible}
use Rattle.star.specs.declared.rules.Rule.TheVariants.{Fair, Least}
use Rattle.star.specs.Rules.{rule_number}
use Rattle.std.specs.Prelude.{Ok, Err}
use Rattle.star.specs.Refusals.{Accepted, Refused, verdict_of, refusal_number, refusal_place, verdict_number, verdict_place, nodes_out, slots_out, rule_out, limit_out, short, spent, some_cell, first_above}
use Rattle.star.specs.Checks.{sizes_verdict, rule_verdict, rule_and_limit_verdict, ranges_verdict, demand_short_verdict, demand_above_verdict, refuse, then}
use Rattle.star.specs.Schedules.{ConflictFree, ConflictFreeWithin, count, heard_in, hears_in, refused_by, differ, reconfigurations}

-- ---- what is refused
-- 1 N outside its range; 2 L outside its range; 3 rule neither 0 nor 1; 4 demand or arrivals shorter than N×N; 5 a table too short; 6 a demand or
-- arrival above 65,535; 7 B outside its range; 8 a pair's books disagree; 9 this kind of call already accepted 1,000,000 times or more; 10 a
-- scenario file that is not in order.
numbers : map refusal_number (Nodes ∷ Slots ∷ Rule ∷ DemandShort ∷ TableShort ∷ DemandAbove 3 ∷ QueueLimit ∷ BooksDisagree 4 ∷ CallsSpent ∷ BadFile 5 ∷ [])
    ≡ 1 ∷ 2 ∷ 3 ∷ 4 ∷ 5 ∷ 6 ∷ 7 ∷ 8 ∷ 9 ∷ 10 ∷ []
numbers = refl

-- Place 0, for 6 and 8 the cell, and for 10 the entry.
places : map refusal_place (Nodes ∷ Slots ∷ Rule ∷ DemandShort ∷ TableShort ∷ DemandAbove 3 ∷ QueueLimit ∷ BooksDisagree 4 ∷ CallsSpent ∷ BadFile 5 ∷ [])
    ≡ 0 ∷ 0 ∷ 0 ∷ 0 ∷ 0 ∷ 3 ∷ 0 ∷ 4 ∷ 0 ∷ 5 ∷ []
places = refl

-- An accepted call reports number 0 and place 0; a refused one its refusal's.
reports : map verdict_number (Accepted ∷ Refused (DemandAbove 3) ∷ []) ≡ 0 ∷ 6 ∷ []
reports = refl

reports_place : map verdict_place (Accepted ∷ Refused (DemandAbove 3) ∷ []) ≡ 0 ∷ 3 ∷ []
reports_place = refl

-- The verdict of an answer says nothing of what an accepted call reports.
verdicts : map (verdict_of {A = ℕ}) (Ok 7 ∷ Err (DemandAbove 3) ∷ []) ≡ Accepted ∷ Refused (DemandAbove 3) ∷ []
verdicts = refl

-- rule 0 fair, 1 least
rules : map rule_number (Fair ∷ Least ∷ []) ≡ 0 ∷ 1 ∷ []
rules = refl

-- ---- the ranges, at both ends: the last number outside and the first inside, the last inside and the first outside
-- N 1 to 64
nodes_range : map nodes_out (0 ∷ 1 ∷ 64 ∷ 65 ∷ []) ≡ true ∷ false ∷ false ∷ true ∷ []
nodes_range = refl

-- L 1 to 1,024
slots_range : map slots_out (0 ∷ 1 ∷ 1024 ∷ 1025 ∷ []) ≡ true ∷ false ∷ false ∷ true ∷ []
slots_range = refl

-- rule 0 fair, 1 least; a whole machine word is looked at
rule_range : map rule_out (0 ∷ 1 ∷ 2 ∷ 256 ∷ []) ≡ false ∷ false ∷ true ∷ true ∷ []
rule_range = refl

-- queue limit B 1 to 65,535
limit_range : map limit_out (0 ∷ 1 ∷ 65535 ∷ 65536 ∷ []) ≡ true ∷ false ∷ false ∷ true ∷ []
limit_range = refl

-- already accepted 1,000,000 times or more, up to the largest number of 32 bits
calls_range : map spent (0 ∷ 999999 ∷ 1000000 ∷ 4294967295 ∷ []) ≡ false ∷ false ∷ true ∷ true ∷ []
calls_range = refl

-- one cell too few, just enough, and longer than needed
short_range : map (λ cells. short cells 4) (3 ∷ 4 ∷ 5 ∷ []) ≡ true ∷ false ∷ false ∷ []
short_range = refl

-- a bad cell among the first four: the last of them, and none
cells_range : map (some_cell 4) (3 ∷ 4 ∷ []) ≡ true ∷ false ∷ []
cells_range = refl

-- The checks run in the order 1, 2 (case o): N 0 and L 0 together is 1, N 65 is 1, L 1,025 is 2.
sizes_order : map verdict_number (sizes_verdict 0 0 ∷ sizes_verdict 65 4 ∷ sizes_verdict 1 1025 ∷ []) ≡ 1 ∷ 1 ∷ 2 ∷ []
unfolding sizes_verdict refuse
sizes_order = refl

-- both ends of both ranges
sizes_accepted : sizes_verdict 1 1 ∷ sizes_verdict 64 1024 ∷ [] ≡ Accepted ∷ Accepted ∷ []
unfolding sizes_verdict refuse
sizes_accepted = refl

-- The checks run in the order 1, 2, 3, 7: the first of two neighbours is given, and B 0 with rule 2 is 3.
ranges_order :
    map verdict_number (ranges_verdict 0 0 2 0 ∷ ranges_verdict 1 0 2 0 ∷ ranges_verdict 1 1 2 0 ∷ ranges_verdict 1 1 1 0 ∷ ranges_verdict 1 1 0 65536 ∷ []) ≡ 1 ∷ 2 ∷ 3 ∷ 7 ∷ 7 ∷ []
unfolding ranges_verdict rule_and_limit_verdict rule_verdict sizes_verdict then refuse
ranges_order = refl

-- both ends of all ranges
ranges_accepted : ranges_verdict 1 1 0 1 ∷ ranges_verdict 64 1024 1 65535 ∷ [] ≡ Accepted ∷ Accepted ∷ []
unfolding ranges_verdict rule_and_limit_verdict rule_verdict sizes_verdict then refuse
ranges_accepted = refl

-- Groups after each other: the first refusal is given, and what has passed leaves it to the later group.
groups_order : then (Refused Rule) (Refused Slots) ∷ then Accepted (Refused Slots) ∷ then (Refused Rule) Accepted ∷ then Accepted Accepted ∷ [] ≡ Refused Rule ∷ Refused Slots ∷ Refused Rule ∷ Accepted ∷ []
unfolding then
groups_order = refl

-- 3 alone, at both ends
rule_order : rule_verdict 0 ∷ rule_verdict 1 ∷ rule_verdict 2 ∷ [] ≡ Accepted ∷ Accepted ∷ Refused Rule ∷ []
unfolding rule_verdict refuse
rule_order = refl

-- 4: one cell too few, and just enough
demand_short : demand_short_verdict 2 3 ∷ demand_short_verdict 2 4 ∷ [] ≡ Refused DemandShort ∷ Accepted ∷ []
unfolding demand_short_verdict refuse
demand_short = refl

-- 6: the first cell above, and none
demand_above : demand_above_verdict 2 (0 ∷ 65536 ∷ 0 ∷ 65536 ∷ []) ∷ demand_above_verdict 1 (65535 ∷ 65536 ∷ []) ∷ [] ≡ Refused (DemandAbove 1) ∷ Accepted ∷ []
unfolding demand_above_verdict refuse first_above first_below first_from
demand_above = refl

-- One demand or arrival is 0 to 65,535: four cells of 65,535 have no bad one.
above_none : first_above 2 (65535 ∷ 65535 ∷ 65535 ∷ 65535 ∷ []) ≡ 4
unfolding first_above first_below first_from
above_none = refl

-- The first such cell in row order gives the place.
above_first : first_above 2 (0 ∷ 65536 ∷ 0 ∷ 65536 ∷ []) ≡ 1
unfolding first_above first_below first_from
above_first = refl

above_last : first_above 2 (0 ∷ 0 ∷ 0 ∷ 65536 ∷ []) ≡ 3
unfolding first_above first_below first_from
above_last = refl

-- A longer table than needed is accepted; its extra cells are not read.
above_extra : first_above 1 (65535 ∷ 65536 ∷ []) ≡ 1
unfolding first_above first_below first_from
above_extra = refl

-- ---- lines and slack: L 4, D rows 5 0 / 3 1
-- Lines 0 to N−1 are the rows; line N+j is column j.
line_sums : map (line_sum 2 (5 ∷ 0 ∷ 3 ∷ 1 ∷ [])) (0 ∷ 1 ∷ 2 ∷ 3 ∷ []) ≡ 5 ∷ 4 ∷ 8 ∷ 1 ∷ []
unfolding line_sum on_line source_on destination_on sum_to cell
line_sums = refl

-- The slack of a line is L minus its sum.
slacks : map (slack 2 (whole_frame 2 4) (5 ∷ 0 ∷ 3 ∷ 1 ∷ [])) (0 ∷ 1 ∷ 2 ∷ 3 ∷ []) ≡ negsuc 0 ∷ pos 0 ∷ negsuc 3 ∷ pos 3 ∷ []
unfolding slack whole_frame line_sum on_line source_on destination_on sum_to cell
slacks = refl

-- A line overflows when its slack is negative; sum equal to L does not overflow.
overflowing : map (overflows 2 (whole_frame 2 4) (5 ∷ 0 ∷ 3 ∷ 1 ∷ [])) (0 ∷ 1 ∷ 2 ∷ 3 ∷ []) ≡ true ∷ false ∷ true ∷ false ∷ []
unfolding overflows slack whole_frame line_sum on_line source_on destination_on sum_to cell
overflowing = refl

-- The excess is minus the slack of an overflowing line.
excesses : map (excess 2 (whole_frame 2 4) (5 ∷ 0 ∷ 3 ∷ 1 ∷ [])) (0 ∷ 1 ∷ 2 ∷ 3 ∷ []) ≡ 1 ∷ 0 ∷ 4 ∷ 0 ∷ []
unfolding excess slack whole_frame line_sum on_line source_on destination_on sum_to cell
excesses = refl

-- A pair is critical when its row and its column both overflow: not where the column does not, nor where the row does not.
critical_pairs : map (critical 2 (whole_frame 2 4) (5 ∷ 0 ∷ 3 ∷ 1 ∷ []) 0) (0 ∷ 1 ∷ []) ≡ true ∷ false ∷ []
unfolding critical overflows slack whole_frame line_sum on_line source_on destination_on sum_to cell
critical_pairs = refl

uncritical_pairs : map (critical 2 (whole_frame 2 4) (5 ∷ 0 ∷ 3 ∷ 1 ∷ []) 1) (0 ∷ 1 ∷ []) ≡ false ∷ false ∷ []
unfolding critical overflows slack whole_frame line_sum on_line source_on destination_on sum_to cell
uncritical_pairs = refl

-- A signed number from −4,194,239 to 1,024: 64 demands of 65,535 on one slot, and no demand on 1,024.
least_slack : slack 64 (whole_frame 64 1) (replicate 64 65535) 0 ≡ negsuc 4194238
unfolding slack whole_frame line_sum on_line source_on destination_on sum_to cell
least_slack = refl

most_slack : slack 1 (whole_frame 1 1024) (0 ∷ []) 0 ≡ pos 1024
unfolding slack whole_frame line_sum on_line source_on destination_on sum_to cell
most_slack = refl

-- the sum of all cells, and of no extra one
totals : total 2 (5 ∷ 0 ∷ 3 ∷ 1 ∷ 7 ∷ []) ≡ 9
unfolding total sum_to cell
totals = refl

-- Admissible: no line above L.
above_capacity : Admissible 1 (whole_frame 1 4) (5 ∷ []) → ⊥
unfolding whole_frame line_sum on_line source_on destination_on sum_to cell
above_capacity a = omega (arith, a.lines 0 (omega arith))

-- ---- schedules: slot k, destination j at k×N+j, holding the source, or 255 for idle
-- In each slot a source feeds at most one destination.
fed_twice : ConflictFree 2 1 (0 ∷ 0 ∷ []) → ⊥
unfolding cell
fed_twice free = omega (arith, free.once 0 0 1 (omega arith) (omega arith) (omega arith) (omega arith) refl)

-- A destination hears one source or nobody: 2 is neither a source of two nodes nor idle.
heard_stranger : ConflictFree 2 1 (2 ∷ 255 ∷ []) → ⊥
unfolding cell
heard_stranger free = ⊎_elim (λ (h : 2 < 2). omega (arith, h)) (λ (e : 2 ≡ 255). omega (arith, e)) (free.heard 0 0 (omega arith) (omega arith))

-- Three slots: source 0 is heard in all of them, source 1 in the last alone; destination 0 hears in all of them, destination 1 in the last alone.
heard : map (heard_in 2 3 (0 ∷ 255 ∷ 0 ∷ 255 ∷ 1 ∷ 0 ∷ [])) (0 ∷ 1 ∷ []) ≡ 3 ∷ 1 ∷ []
unfolding heard_in some_below sum_to cell
heard = refl

hears : map (hears_in 2 3 (0 ∷ 255 ∷ 0 ∷ 255 ∷ 1 ∷ 0 ∷ [])) (0 ∷ 1 ∷ []) ≡ 3 ∷ 1 ∷ []
unfolding hears_in sum_to cell
hears = refl

-- No source is heard, and no destination hears, in more slots than its line's capacity: one slot of pair (0,0), with capacity 0 of the row, of the
-- column, and 1 of both.
slow_source : ConflictFreeWithin 1 1 (0 ∷ 1 ∷ []) (0 ∷ []) → ⊥
unfolding heard_in some_below sum_to cell
slow_source w = omega (arith, w.sources 0 (omega arith))

slow_destination : ConflictFreeWithin 1 1 (1 ∷ 0 ∷ []) (0 ∷ []) → ⊥
unfolding hears_in sum_to cell
slow_destination w = omega (arith, w.destinations 0 (omega arith))

-- Two slots, destination 0 hears source 0 twice, destination 1 source 1 once.
counts : square 2 (count 2 2 (0 ∷ 1 ∷ 0 ∷ 255 ∷ [])) ≡ 2 ∷ 0 ∷ 0 ∷ 1 ∷ []
unfolding square tab count sum_to hit cell
counts = refl

-- The demand not met by the slots given: of D rows 1 2 / 0 3 two slots of pair (0,1) and two of (1,1); that (0,0) has one more than it asked
-- counts for nothing.
refused : refused_by 2 2 (1 ∷ 2 ∷ 0 ∷ 3 ∷ []) (0 ∷ 1 ∷ 0 ∷ 255 ∷ []) ≡ 4
unfolding refused_by count sum_to hit cell
refused = refl

-- ---- the reconfigurations: the number of k from 0 to L−2 at which slot k and slot k+1 differ for some destination
-- three slots that change at the last step alone, at the first step alone, and at both
last_step : reconfigurations 2 3 (0 ∷ 1 ∷ 0 ∷ 1 ∷ 1 ∷ 0 ∷ []) ≡ 1
unfolding reconfigurations differ some_below sum_to cell
last_step = refl

first_step : reconfigurations 2 3 (0 ∷ 1 ∷ 1 ∷ 0 ∷ 1 ∷ 0 ∷ []) ≡ 1
unfolding reconfigurations differ some_below sum_to cell
first_step = refl

both_steps : reconfigurations 2 3 (0 ∷ 1 ∷ 1 ∷ 0 ∷ 0 ∷ 1 ∷ []) ≡ 2
unfolding reconfigurations differ some_below sum_to cell
both_steps = refl

-- Idle is a value like any other: the last destination alone goes idle, or the first alone.
to_idle : map (reconfigurations 2 2) ((0 ∷ 1 ∷ 0 ∷ 255 ∷ []) ∷ (0 ∷ 1 ∷ 255 ∷ 1 ∷ []) ∷ []) ≡ 1 ∷ 1 ∷ []
unfolding reconfigurations differ some_below sum_to cell
to_idle = refl

-- L 1 has no two slots; bytes beyond L slots are not read.
one_slot : reconfigurations 1 1 (0 ∷ 255 ∷ []) ≡ 0
unfolding reconfigurations differ some_below sum_to cell
one_slot = refl
