-- Checks by the names of their refusals: how they follow each other, and the groups that entries share, each by itself; Accepted where none fires.
use Rattle.std.specs.Prelude.{ℕ, ◌*◌, Bool, true, false, List, Ok, Err}
use Rattle.star.specs.declared.refusals.Refusal.{Refusal}
use Rattle.star.specs.declared.refusals.Refusal.TheVariants.{Nodes, Slots, Rule, DemandShort, DemandAbove, QueueLimit}
use Rattle.star.specs.Refusals.{Verdict, Accepted, Refused, nodes_out, slots_out, rule_out, limit_out, short, some_cell, first_above}

-- The first that fires is given, by its name. A chain of names says what the chain of numbers says, since a name has its number and its place
-- (`in_numbers` in proofs/RefusalLaws.antt).
unfoldable pub refuse : Bool → Refusal → Verdict → Verdict
refuse true r later = Refused r
refuse false r later = later

-- Groups of checks after each other: the later ones are made where the first ones have passed.
unfoldable pub then : (first later : Verdict) → Verdict
then (Ok _) later = later
then (Err r) later = Refused r

-- 1, 2
unfoldable pub sizes_verdict : (n l : ℕ) → Verdict
sizes_verdict n l = refuse (nodes_out n) Nodes (refuse (slots_out l) Slots Accepted)

-- 3
unfoldable pub rule_verdict : (rule : ℕ) → Verdict
rule_verdict rule = refuse (rule_out rule) Rule Accepted

-- 3, 7
unfoldable pub rule_and_limit_verdict : (rule limit : ℕ) → Verdict
rule_and_limit_verdict rule limit = then (rule_verdict rule) (refuse (limit_out limit) QueueLimit Accepted)

-- 1, 2 | 3, 7
unfoldable pub ranges_verdict : (n l rule limit : ℕ) → Verdict
ranges_verdict n l rule limit = then (sizes_verdict n l) (rule_and_limit_verdict rule limit)

-- 4: a demand or arrivals of so many cells
unfoldable pub demand_short_verdict : (n cells : ℕ) → Verdict
demand_short_verdict n cells = refuse (short cells (n * n)) DemandShort Accepted

-- 6
unfoldable pub demand_above_verdict : (n : ℕ) (d : List ℕ) → Verdict
demand_above_verdict n d = refuse (some_cell (n * n) (first_above n d)) (DemandAbove (first_above n d)) Accepted
