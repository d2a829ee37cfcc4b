-- Checks in their order: one that fires gives its refusal, one that does not leaves it to the later ones; groups of them likewise. And read
-- backwards: what an accepted call has passed. The laws assume nothing.
use Prim.Native.Nat.{ℕ, ◌*◌, ◌≤◌, ◌<◌}
use native.Mathlib.Nat.{le_of_eq}
use native.Mathlib.Omega.{arith}
use mathlib.Core.Path.{◌≡◌, refl, sym, ◌∙◌, ap}
use mathlib.Core.Bool.{Bool, true, false, ◌||◌}
use mathlib.Core.List.{List}
use lib.ListN.{get_or}
use lib.Dec.{ltb}
use borrow.Author.Tests.{lt-ltb, le-ltb, ltb-false}
use Rattle.std.specs.Prelude.{Result, Ok, Err, IsErrAnd, Some, None}
use Rattle.sums.specs.Searches.{found}
use Rattle.sums.proofs.Cases.{by_lt}
use Rattle.sums.proofs.Searches.{first_none, first_before, found_some, found_none}
use Rattle.star.specs.declared.refusals.Refusal.{Refusal}
use Rattle.star.specs.declared.refusals.Refusal.TheVariants.{Nodes, Slots, Rule, QueueLimit}
use Rattle.star.specs.Tables.{Demands}
use Rattle.star.specs.Refusals.{Verdict, Accepted, Refused, Notice, notice_of, check, refusal_number, refusal_place, Promise, outside, nodes_out, slots_out, rule_out, limit_out, some_cell, first_above_in, first_above, Sizes, Ranges}
use Rattle.star.specs.Checks.{sizes_verdict, rule_verdict, rule_and_limit_verdict, ranges_verdict, demand_short_verdict, demand_above_verdict, refuse, then}

some_same : {x y : ℕ} → Some x ≡ Some y → x ≡ y
some_same e = cc

none_some : {x : ℕ} → None ≡ Some x → ⊥
none_some e = let z : ◌≡◌ {A = ℕ} 0 1 = cc in omega arith

pub fires : {b : Bool} {r : Refusal} (later : Verdict) → b ≡ true → Refused r ≡ refuse b r later
unfolding refuse
fires later e = rw e refl

pub passes : {b : Bool} (r : Refusal) {v later : Verdict} → b ≡ false → v ≡ later → v ≡ refuse b r later
unfolding refuse
passes r e h = rw e h

-- ---- the same for a search, which fires where it finds a cell
-- what is found is the first, and one of those searched ..
pub found_first : {m first x : ℕ} → found m first ≡ Some x → (x ≡ first) × (x < m)
found_first {m} {first} e =
    by_lt first m
    (λ lt. let same : first ≡ _ = some_same (sym (found_some m first lt) ∙ e) in (sym same, omega arith))
    (λ le. absurd (none_some (sym (found_none m first le) ∙ e)))

-- .. so the search fires, with the cell that is found, ..
pub fires_found : (m first : ℕ) {x : ℕ} (r : ℕ → Refusal) (later : Verdict) → found m first ≡ Some x → Refused (r x) ≡ refuse (some_cell m first) (r first) later
fires_found m first r later e =
    let is = found_first e in
    rw is.0 (fires later (lt-ltb first m (omega (arith, is.0, is.1))))

-- .. and passes where nothing is found: none of those searched is
pub passed_all : {m first : ℕ} → found m first ≡ None → m ≤ first
passed_all {m} {first} e = by_lt first m (λ lt. absurd (none_some (sym e ∙ found_some m first lt))) (λ le. le)

pub passes_found : (m first : ℕ) (r : Refusal) {v later : Verdict} → found m first ≡ None → v ≡ later → v ≡ refuse (some_cell m first) r later
passes_found m first r e h = passes r (le-ltb first m (passed_all e)) h

-- ---- a chain of refusals by their names says in numbers what the chain of their numbers and places says
pub in_numbers : (b : Bool) (r : Refusal) (later : Verdict) {rest : Notice} → notice_of later ≡ rest → notice_of (refuse b r later) ≡ check b (refusal_number r) (refusal_place r) rest
unfolding refuse check
in_numbers true r later e = refl
in_numbers false r later e = e

-- ---- what `?` hands on
-- the refusal of the call, as the answer of the caller
pub raised : {A : Type 0} (answer : Result A Refusal) {r : Refusal} → IsErrAnd answer (λ x. x ≡ r) → answer ≡ Err r
raised (Ok _) h = absurd h
raised (Err x) h = ap Err h

-- ---- one check read backwards
pub never : {r : Refusal} → Refused r ≡ Accepted → ⊥
never e = let z : ◌≡◌ {A = ℕ} 0 1 = cc in omega arith

-- an accepted call has passed the check, and the later ones
pub passed : (b : Bool) (r : Refusal) (later : Verdict) → refuse b r later ≡ Accepted → (b ≡ false) × (later ≡ Accepted)
unfolding refuse
passed true r later e = absurd (never e)
passed false r later e = (refl, e)

-- ---- groups of checks after each other
-- a group that refuses is the answer ..
pub then_stops : {v first : Verdict} {r : Refusal} (later : Verdict) → v ≡ first → v ≡ Refused r → v ≡ then first later
unfolding then
then_stops later is e = rw (sym is ∙ e) e

-- .. and one that has passed leaves it to the later ones
pub then_goes : {v w first later : Verdict} → v ≡ first → v ≡ Accepted → w ≡ later → w ≡ then first later
unfolding then
then_goes is e q = rw (sym is ∙ e) q

-- an accepted call has passed the first ones, and the later ones
pub then_passed : (first later : Verdict) → then first later ≡ Accepted → (first ≡ Accepted) × (later ≡ Accepted)
unfolding then
then_passed (Ok _) later e = (refl, e)
then_passed (Err r) later e = absurd (never e)

-- a check of the first group, in numbers
pub group_in_numbers : (b : Bool) (r : Refusal) (first later : Verdict) {rest : Notice} → notice_of (then first later) ≡ rest →
    notice_of (then (refuse b r first) later) ≡ check b (refusal_number r) (refusal_place r) rest
unfolding refuse check then
group_in_numbers true r first later e = refl
group_in_numbers false r first later e = e

-- the end of a group ..
pub group_ends : (later : Verdict) {rest : Notice} → notice_of later ≡ rest → notice_of (then Accepted later) ≡ rest
unfolding then
group_ends later e = e

-- .. and a group of groups
pub group_inside : (a b c : Verdict) {rest : Notice} → notice_of (then a (then b c)) ≡ rest → notice_of (then (then a b) c) ≡ rest
unfolding then
group_inside (Ok _) b c e = e
group_inside (Err r) b c e = e

-- two checks that give one refusal are one
pub either : (a b : Bool) (number place : ℕ) (later : Notice) → check a number place (check b number place later) ≡ check (a || b) number place later
unfolding check
either true b number place later = refl
either false b number place later = refl

-- ---- what an entry owes once its verdict is known
module _ {v due : Verdict} {numbers : Notice} (is : v ≡ due) (told : notice_of due ≡ numbers) {S : Type 0} {Done : Type 0} where
  -- nothing changes after a refusal
  pub promise_refused : {x : Refusal} (s : S) → v ≡ Refused x → Promise v due numbers s s Done
  promise_refused s e = record { answer = is; notice = ap notice_of is ∙ told; accepted = λ ok. absurd (never (sym e ∙ ok)); refused = λ y q. refl }

  -- and what is accepted has been done
  pub promise_done : (s s' : S) → v ≡ Accepted → Done → Promise v due numbers s s' Done
  promise_done s s' ok done = record { answer = is; notice = ap notice_of is ∙ told; accepted = λ _. done; refused = λ y q. absurd (never (sym q ∙ ok)) }

-- two calls that keep one promise of the same input, which says what is held after an acceptance, give one verdict and leave the same
pub promise_same : {S : Type 0} (v₁ : Verdict) {v₂ due : Verdict} {numbers : Notice} {before after₁ after₂ done : S} →
    Promise v₁ due numbers before after₁ (after₁ ≡ done) → Promise v₂ due numbers before after₂ (after₂ ≡ done) → (v₁ ≡ v₂) × (after₁ ≡ after₂)
promise_same (Ok _) c d = let e = c.answer ∙ sym d.answer in (e, c.accepted refl ∙ sym (d.accepted (sym e)))
promise_same (Err x) c d = let e = c.answer ∙ sym d.answer in (e, c.refused x refl ∙ sym (d.refused x (sym e)))

-- ---- one of several tests
pub first_of : (a b : Bool) → a ≡ true → (a || b) ≡ true
first_of a b e = rw e refl

pub second_of : (a b : Bool) → a ≡ false → b ≡ true → (a || b) ≡ true
second_of a b e f = rw (e, f) refl

pub neither : (a b : Bool) → a ≡ false → b ≡ false → (a || b) ≡ false
neither a b e f = rw (e, f) refl

pub neither_of : (a b : Bool) → (a || b) ≡ false → (a ≡ false) × (b ≡ false)
neither_of true b e = let z : ◌≡◌ {A = ℕ} 0 1 = cc in absurd (omega arith)
neither_of false b e = (refl, e)

pub in_its_range : (low high x : ℕ) → outside low high x ≡ false → (low ≤ x) × (x ≤ high)
in_its_range low high x e = let h = neither_of _ _ e in (ltb-false x low h.0, ltb-false high x h.1)

pub inside : (low high x : ℕ) → low ≤ x → x ≤ high → outside low high x ≡ false
inside low high x p q = neither _ _ (le-ltb x low p) (le-ltb high x q)

-- ---- 1, 2
-- numbers in their ranges pass ..
pub sizes_fit : (n l : ℕ) → Sizes n l → Accepted ≡ sizes_verdict n l
unfolding sizes_verdict
sizes_fit n l s = passes Nodes (inside 1 64 n s.some_nodes s.nodes) (passes Slots (inside 1 1024 l s.some_slots s.slots) refl)

-- .. and what has passed is in its range
pub sized : (n l : ℕ) → sizes_verdict n l ≡ Accepted → Sizes n l
unfolding sizes_verdict
sized n l e =
    let a = passed _ _ _ e in
    let nodes = in_its_range 1 64 n a.0 in
    let slots = in_its_range 1 1024 l (passed _ _ _ a.1).0 in
    record { some_nodes = nodes.0; nodes = nodes.1; some_slots = slots.0; slots = slots.1 }

-- ---- 3
pub rule_fits : (rule : ℕ) → rule ≤ 1 → Accepted ≡ rule_verdict rule
unfolding rule_verdict
rule_fits rule known = passes Rule (le-ltb 1 rule known) refl

pub ruled : (rule : ℕ) → rule_verdict rule ≡ Accepted → rule ≤ 1
unfolding rule_verdict
ruled rule e = ltb-false 1 rule (passed _ _ _ e).0

-- ---- 1, 2, 3, 7
pub ranges_fit : (n l rule limit : ℕ) → Ranges n l rule limit → Accepted ≡ ranges_verdict n l rule limit
unfolding ranges_verdict rule_and_limit_verdict
ranges_fit n l rule limit r =
    then_goes (sizes_fit n l r.sizes) refl (then_goes (rule_fits rule r.known_rule) refl (passes QueueLimit (inside 1 65535 limit r.some_limit r.known_limit) refl))

pub ranged : (n l rule limit : ℕ) → ranges_verdict n l rule limit ≡ Accepted → Ranges n l rule limit
unfolding ranges_verdict rule_and_limit_verdict
ranged n l rule limit e =
    let a = then_passed _ _ e in
    let b = then_passed _ _ a.1 in
    let queue = in_its_range 1 65535 limit (passed _ _ _ b.1).0 in
    record { sizes = sized n l a.0; known_rule = ruled rule b.0; some_limit = queue.0; known_limit = queue.1 }

pub ranges_in_numbers : (n l rule limit : ℕ) (later : Verdict) {rest : Notice} → notice_of later ≡ rest →
    notice_of (then (ranges_verdict n l rule limit) later) ≡ check (nodes_out n) 1 0 (check (slots_out l) 2 0 (check (rule_out rule) 3 0 (check (limit_out limit) 7 0 rest)))
unfolding ranges_verdict rule_and_limit_verdict rule_verdict sizes_verdict
ranges_in_numbers n l rule limit later e =
    group_inside _ _ _ (group_in_numbers _ _ _ _ (group_in_numbers _ _ _ _ (group_ends _
    (group_inside _ _ _ (group_in_numbers _ _ _ _ (group_ends _ (group_in_numbers _ _ _ _ (group_ends _ e))))))))

-- ---- 4
pub demand_fits : (n cells : ℕ) → n * n ≤ cells → Accepted ≡ demand_short_verdict n cells
unfolding demand_short_verdict
demand_fits n cells h = passes _ (le-ltb _ _ h) refl

pub long_demand : (n cells : ℕ) → demand_short_verdict n cells ≡ Accepted → n * n ≤ cells
unfolding demand_short_verdict
long_demand n cells e = ltb-false _ _ (passed _ _ _ e).0

-- ---- where no cell is above 65,535, each is within its range
pub each_within : (count : ℕ) (cells : List ℕ) → count ≤ first_above_in count cells → (p : ℕ) → p < count → get_or cells p 0 ≤ 65535
each_within count cells h p lt = ltb-false 65535 (get_or cells p 0) (first_before (λ q. ltb 65535 (get_or cells q 0)) count p (omega arith))

pub within_range : (n : ℕ) (d : List ℕ) → n * n ≤ first_above n d → Demands n d
unfolding first_above
within_range n d h = record { most = each_within (n * n) d h }

-- ---- and where each is within its range, none is found above it
pub none_above_in : (count : ℕ) (cells : List ℕ) → ((p : ℕ) → p < count → get_or cells p 0 ≤ 65535) → some_cell count (first_above_in count cells) ≡ false
none_above_in count cells most =
    le-ltb _ _ (le_of_eq (sym (first_none (λ q. ltb 65535 (get_or cells q 0)) count (λ q lt. le-ltb 65535 (get_or cells q 0) (most q lt)))))

pub none_above : (n : ℕ) (d : List ℕ) → ((p : ℕ) → p < n * n → get_or d p 0 ≤ 65535) → some_cell (n * n) (first_above n d) ≡ false
unfolding first_above
none_above n d most = none_above_in (n * n) d most

-- ---- 6
pub demand_within : (n : ℕ) (d : List ℕ) → Demands n d → Accepted ≡ demand_above_verdict n d
unfolding demand_above_verdict
demand_within n d h = passes _ (none_above n d h.most) refl

pub within : (n : ℕ) (d : List ℕ) → demand_above_verdict n d ≡ Accepted → Demands n d
unfolding demand_above_verdict
within n d e = within_range n d (ltb-false _ _ (passed _ _ _ e).0)
