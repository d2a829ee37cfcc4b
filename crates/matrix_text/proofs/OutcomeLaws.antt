-- What is printed of plan's answer is what document 01's order asks: plan gives 1, 2 and 3 before it looks at the demand, and where the count of
-- demands is right, the demand that it is lent is the input's. The laws assume nothing.
use Prim.Native.Nat.{ℕ, ◌-◌, ◌*◌, ◌≤◌, ◌<◌, min}
use native.Mathlib.Omega.{arith}
use native.Mathlib.Nat.{mul-le-mul}
use mathlib.Core.Path.{◌≡◌, refl, sym, ◌∙◌, ap, subst}
use mathlib.Core.Bool.{Bool, true, false, ◌||◌}
use mathlib.Core.List.{List, [], ◌∷◌}
use mathlib.Core.Option.{none}
use Rattle.std.specs.Prelude.{Ok, Err}
use lib.Dec.{leb, eqb}
use lib.ListN.{length, get_or, take, drop, length-drop}
use lib.Seq.{get_or-take, take_all, length-take-le}
use borrow.Author.Tests.{eqb-true, ltb-false, lt-ltb, le-ltb, le-leb, lt-leb}
use Rattle.sums.proofs.Cases.{by_lt, by_test}
use Rattle.sums.proofs.Tables.{mul_small}
use Rattle.star.specs.declared.refusals.Refusal.{Refusal}
use Rattle.star.specs.declared.refusals.Refusal.TheVariants.{Nodes, Slots, Rule, DemandShort, TableShort, DemandAbove}
use Rattle.star.specs.Refusals as verdict
use Rattle.star.specs.Refusals.{verdict_of, nodes_out, slots_out, rule_out, some_cell, first_above, refusal_number, refusal_place, Sizes}
use Rattle.star.specs.Lines.{total, whole_frame}
use Rattle.star.specs.Checks.{sizes_verdict, rule_verdict, demand_short_verdict, demand_above_verdict, refuse, then}
use Rattle.star.proofs.RefusalLaws.{fires, passes, never, then_stops, then_goes, in_its_range, sizes_fit, rule_fits, demand_fits}
use Rattle.pieces.specs.Text.{bad_input, refusal_text}
use Rattle.planner.specs.Plans.{Answer, Planned, Refused, report_of, Plan, PlanResult}
use Rattle.planner.specs.Lent.{Lent, lent, LentRoom}
use Rattle.planner.specs.Checks.{lent_short_verdict, plan_verdict}
use Rattle.planner.proofs.PlanLaws.{lent_fits, plan_room}
use Rattle.number_list.specs.Input.{list_of}
use Rattle.number_list.specs.Reads.{Stored, Holds}
use Rattle.matrix_text.specs.Text.{plan_text}
use Rattle.matrix_text.specs.Outcomes.{Outcome, BadInput, Refuses, Plans, or_else, judge, judge_list, outcome, outcome_text, Prints}
use Rattle.matrix_text.specs.Writes.{refused_text, answer_text, Printable}

-- ---- tests
or_true : (a : Bool) → (a || true) ≡ true
or_true true = refl
or_true false = refl

taken : {b : Bool} (x y : Outcome) → b ≡ true → or_else b x y ≡ x
taken x y e = rw e refl

pub left : {b : Bool} (x : Outcome) {y z : Outcome} → b ≡ false → y ≡ z → or_else b x y ≡ z
left x e h = rw e h

-- ---- answers
is_refused : (r : Answer) (x : Refusal) → verdict_of r ≡ verdict.Refused x → r ≡ Refused x
is_refused (Ok f) x e = absurd (never (sym e))
is_refused (Err y) x e = cc

is_planned : (r : Answer) → verdict_of r ≡ verdict.Accepted → r ≡ Planned (report_of r)
is_planned (Ok f) e = refl
is_planned (Err y) e = absurd (never e)

-- ---- a refusal and the count
pub refused_early : (whole : Bool) (x : Refusal) → refusal_number x ≤ 3 → refused_text whole x ≡ refusal_text (refusal_number x) (refusal_place x)
unfolding refused_text
refused_early whole x low = rw (le-leb (refusal_number x) 3 low, refused_text) refl

pub refused_whole : (whole : Bool) (x : Refusal) → whole ≡ true → refused_text whole x ≡ refusal_text (refusal_number x) (refusal_place x)
unfolding refused_text
refused_whole whole x e = rw (e, or_true (leb (refusal_number x) 3), refused_text) refl

pub refused_late : (whole : Bool) (x : Refusal) → 3 < refusal_number x → whole ≡ false → refused_text whole x ≡ bad_input
unfolding refused_text
refused_late whole x high e = rw (lt-leb (refusal_number x) 3 high, e, refused_text) refl

-- ---- texts
prints_bad : (o : Outcome) (text : List ℕ) → o ≡ BadInput → text ≡ bad_input → Prints o text
unfolding outcome_text
prints_bad o text e t = record {
  plan = lent [] [] [];
  planned = λ n l rule d p. absurd (let z : ◌≡◌ {A = ℕ} 0 1 = cc in omega arith);
  printed = t ∙ ap (λ o. outcome_text o []) (sym e);
}

prints_refusal : (o : Outcome) (text : List ℕ) (x : Refusal) → o ≡ Refuses x → text ≡ refusal_text (refusal_number x) (refusal_place x) → Prints o text
unfolding outcome_text
prints_refusal o text x e t = record {
  plan = lent [] [] [];
  planned = λ n l rule d p. absurd (let z : ◌≡◌ {A = ℕ} 0 1 = cc in omega arith);
  printed = t ∙ ap (λ o. outcome_text o []) (sym e);
}

same_plan : {n l rule m k s : ℕ} {d e : List ℕ} (t : Lent) → Plans n l rule d ≡ Plans m k s e → Plan n l rule (whole_frame n l) d t → Plan m k s (whole_frame m k) e t
same_plan {n} {l} {rule} {m} {k} {s} {d} {e} t p plan =
    let a : n ≡ m = cc in
    let b : l ≡ k = cc in
    let c : rule ≡ s = cc in
    let f : d ≡ e = cc in
    rw (← a, ← b, ← c, ← f) plan

prints_plan : (o : Outcome) (text : List ℕ) (n l rule : ℕ) (d : List ℕ) (k : Lent) → o ≡ Plans n l rule d → Plan n l rule (whole_frame n l) d k →
    text ≡ plan_text n l rule (total n k.kept) (total n d - total n k.kept) k.kept → Prints o text
unfolding outcome_text
prints_plan o text n l rule d k e plan t = record {
  plan = k;
  planned = λ m x y f p. same_plan k (sym e ∙ p) plan;
  printed = t ∙ ap (λ o. outcome_text o k.kept) (sym e);
}

-- ---- an accepted plan has a kept matrix
pub printable : {n l rule : ℕ} {d : List ℕ} {k k' : Lent} (r : Answer) → PlanResult n l rule d k k' r → Printable n k'.kept r
printable {n} {l} {rule} {d} {k} r p = record {
  square = λ v.
      let room = plan_room n l rule d k (sym p.answer ∙ v) in
      record { nodes = room.sizes.nodes; cells = omega (arith, room.tables.kept, (p.accepted v).wrote.kept_length) };
}

-- ---- N and L that are not refused
pub sizes : (n l : ℕ) → nodes_out n ≡ false → slots_out l ≡ false → Sizes n l
sizes n l e1 e2 =
    let nodes = in_its_range 1 64 n e1 in
    let slots = in_its_range 1 1024 l e2 in
    record { some_nodes = nodes.0; nodes = nodes.1; some_slots = slots.0; slots = slots.1 }

-- ---- the tables that a plan is lent, which the largest star fills
module _ (n l rule : ℕ) (k : Lent) (lk : length k.kept ≡ 4096) (lw : length k.withdrawn ≡ 4096) (ls : length k.schedule ≡ 65536) where
  tables : Sizes n l → LentRoom n l k
  tables s =
      let cells = mul_small n n s.nodes s.nodes in
      let bytes : l * n ≤ 1024 * 64 = mul-le-mul s.slots s.nodes in
      record { kept = omega arith; withdrawn = omega arith; schedule = omega arith }

  -- ---- a right count of demands: the demand lent is the input's
  module _ (k' : Lent) (r : Answer) (d : List ℕ) (p : PlanResult n l rule d k k' r) (e1 : nodes_out n ≡ false) (e2 : slots_out l ≡ false) (e3 : rule_out rule ≡ false) (whole : eqb (length d) (n * n) ≡ true) where
    -- only 6 is left to be given
    decided : verdict_of r ≡ demand_above_verdict n d
    unfolding plan_verdict
    decided =
        p.answer
        ∙ sym (then_goes (sizes_fit n l (sizes n l e1 e2)) refl
        (then_goes (rule_fits rule (ltb-false 1 rule e3)) refl
        (then_goes (demand_fits n (length d) (omega (arith, eqb-true (length d) (n * n) whole))) refl
        (then_goes (lent_fits (tables (sizes n l e1 e2))) refl refl))))

    judged : (o : Outcome) → or_else (some_cell (n * n) (first_above n d)) (Refuses (DemandAbove (first_above n d))) (Plans n l rule d) ≡ o → judge (n ∷ l ∷ rule ∷ d) ≡ o
    unfolding judge
    judged o h = left (Refuses Nodes) e1 (left (Refuses Slots) e2 (left (Refuses Rule) e3 (rw whole h)))

    whole_refused : some_cell (n * n) (first_above n d) ≡ true → Prints (judge (n ∷ l ∷ rule ∷ d)) (answer_text true n l rule k'.kept r)
    unfolding answer_text refused_text demand_above_verdict
    whole_refused e =
        prints_refusal (judge (n ∷ l ∷ rule ∷ d)) (answer_text true n l rule k'.kept r) (DemandAbove (first_above n d))
        (judged (Refuses (DemandAbove (first_above n d))) (taken (Refuses (DemandAbove (first_above n d))) (Plans n l rule d) e))
        (ap (answer_text true n l rule k'.kept) (is_refused r (DemandAbove (first_above n d)) (decided ∙ sym (fires verdict.Accepted e))))

    whole_planned : some_cell (n * n) (first_above n d) ≡ false → Prints (judge (n ∷ l ∷ rule ∷ d)) (answer_text true n l rule k'.kept r)
    unfolding answer_text demand_above_verdict
    whole_planned e =
        let v : verdict_of r ≡ verdict.Accepted = decided ∙ sym (passes (DemandAbove (first_above n d)) e refl) in
        let done = p.accepted v in
        prints_plan (judge (n ∷ l ∷ rule ∷ d)) (answer_text true n l rule k'.kept r) n l rule d k'
        (judged (Plans n l rule d) (left (Refuses (DemandAbove (first_above n d))) e refl))
        done.wrote.plan
        (ap (answer_text true n l rule k'.kept) (is_planned r v) ∙ rw (done.figures.kept_total, done.figures.refused_total) refl)

    whole_prints : Prints (judge (n ∷ l ∷ rule ∷ d)) (answer_text true n l rule k'.kept r)
    whole_prints = by_test (some_cell (n * n) (first_above n d)) whole_refused whole_planned

  -- ---- any count
  module _ (k' : Lent) (r : Answer) (given : List ℕ) (p : PlanResult n l rule given k k' r) (d : List ℕ) (same : n ≤ 64 → length d ≡ n * n → given ≡ d) where
    -- a refusal 1, 2 or 3
    early : (x : Refusal) → refused_text (eqb (length d) (n * n)) x ≡ refusal_text (refusal_number x) (refusal_place x) → verdict_of r ≡ verdict.Refused x → judge (n ∷ l ∷ rule ∷ d) ≡ Refuses x →
        Prints (judge (n ∷ l ∷ rule ∷ d)) (answer_text (eqb (length d) (n * n)) n l rule k'.kept r)
    unfolding answer_text
    early x says v o =
        prints_refusal (judge (n ∷ l ∷ rule ∷ d)) (answer_text (eqb (length d) (n * n)) n l rule k'.kept r) x o
        (ap (answer_text (eqb (length d) (n * n)) n l rule k'.kept) (is_refused r x v) ∙ says)

    -- after the count nothing but `bad input` is printed where it is wrong
    late : (b4 b5 b6 : Bool) (c : ℕ) →
        verdict_of r ≡ then (refuse b4 DemandShort verdict.Accepted) (then (refuse b5 TableShort verdict.Accepted) (refuse b6 (DemandAbove c) verdict.Accepted)) →
        answer_text false n l rule k'.kept r ≡ bad_input
    unfolding answer_text refused_text refuse then
    late true b5 b6 c v = ap (answer_text false n l rule k'.kept) (is_refused r DemandShort v)
    late false true b6 c v = ap (answer_text false n l rule k'.kept) (is_refused r TableShort v)
    late false false true c v = ap (answer_text false n l rule k'.kept) (is_refused r (DemandAbove c) v)
    late false false false c v = ap (answer_text false n l rule k'.kept) (is_planned r v)

    numbers_print : Prints (judge (n ∷ l ∷ rule ∷ d)) (answer_text (eqb (length d) (n * n)) n l rule k'.kept r)
    unfolding plan_verdict sizes_verdict rule_verdict demand_short_verdict lent_short_verdict demand_above_verdict judge refused_text
    numbers_print =
        by_test (nodes_out n)
        (λ e1. early Nodes refl (p.answer ∙ sym (then_stops _ (fires _ e1) refl)) (taken _ _ e1))
        (λ e1. by_test (slots_out l)
        (λ e2. early Slots refl (p.answer ∙ sym (then_stops _ (passes Nodes e1 (fires _ e2)) refl)) (left _ e1 (taken _ _ e2)))
        (λ e2. by_test (rule_out rule)
        (λ e3. early Rule refl (p.answer ∙ sym (then_goes (sizes_fit n l (sizes n l e1 e2)) refl (then_stops _ (fires _ e3) refl))) (left _ e1 (left _ e2 (taken _ _ e3))))
        (λ e3. by_test (eqb (length d) (n * n))
        (λ whole.
        subst (λ t. Prints (judge (n ∷ l ∷ rule ∷ d)) (answer_text t n l rule k'.kept r)) (sym whole)
        (whole_prints k' r d (subst (λ s. PlanResult n l rule s k k' r) (same (in_its_range 1 64 n e1).1 (eqb-true (length d) (n * n) whole)) p) e1 e2 e3 whole))
        (λ wrong.
        prints_bad _ _ (left _ e1 (left _ e2 (left _ e3 (rw wrong refl))))
        (ap (λ t. answer_text t n l rule k'.kept r) wrong ∙ late _ _ _ _ (p.answer ∙ sym (then_goes (sizes_fit n l (sizes n l e1 e2)) refl (then_goes (rule_fits rule (ltb-false 1 rule e3)) refl refl))))))))

-- ---- the numbers that a table stores
split : (numbers : List ℕ) → 3 ≤ length numbers → numbers ≡ get_or numbers 0 0 ∷ get_or numbers 1 0 ∷ get_or numbers 2 0 ∷ drop 3 numbers
split [] h = absurd (omega arith)
split (a ∷ []) h = absurd (omega arith)
split (a ∷ b ∷ []) h = absurd (omega arith)
split (a ∷ b ∷ c ∷ d) h = refl

-- fewer than three numbers
few_numbers : (numbers : List ℕ) → length numbers < 3 → judge numbers ≡ BadInput
unfolding judge
few_numbers [] h = refl
few_numbers (a ∷ []) h = refl
few_numbers (a ∷ b ∷ []) h = refl
few_numbers (a ∷ b ∷ c ∷ d) h = absurd (omega arith)

module _ (table numbers : List ℕ) (count end : ℕ) (size : length table ≡ 4099) (e : end ≡ min count 4099) (s : Stored table count numbers) where
  pub few_print : length (take end table) < 3 → Prints (judge numbers) bad_input
  few_print few = prints_bad (judge numbers) bad_input (few_numbers numbers (omega (arith, s.counted, length-take-le end table (omega arith)))) refl

  -- the first numbers of the list
  first_numbers : take end table ≡ take 4099 numbers
  first_numbers =
      by_lt count 4099
      (λ few. let all : end ≡ count = omega arith in rw (all, ← size) (sym s.held))
      (λ many. let all : end ≡ length table = omega arith in rw all (take_all (length table) table (omega arith) ∙ sym (take_all count table (omega arith)) ∙ sym s.held ∙ ap (λ k. take k numbers) size))

  module _ (some : 3 ≤ length (take end table)) where
    first : (i : ℕ) → i < 3 → get_or numbers i 0 ≡ get_or (take end table) i 0
    first i h = sym (ap (λ l. get_or l i 0) first_numbers ∙ get_or-take 4099 numbers i 0 (omega arith))

    -- where all fit, the demand is the list's
    demands : length numbers ≤ 4099 → take (length (take end table) - 3) (drop 3 (take end table)) ≡ drop 3 numbers
    demands few =
        take_all (length (take end table) - 3) (drop 3 (take end table)) (omega (arith, length-drop 3 (take end table)))
        ∙ ap (drop 3) (first_numbers ∙ take_all 4099 numbers few)

    many : 3 ≤ length numbers
    many = omega (arith, s.counted, length-take-le end table (omega arith))

    counted : length (drop 3 numbers) ≡ count - 3
    counted = length-drop 3 numbers ∙ omega (arith, s.counted)

    pub stored_prints : {k k' : Lent} (r : Answer) →
        PlanResult (get_or (take end table) 0 0) (get_or (take end table) 1 0) (get_or (take end table) 2 0) (take (length (take end table) - 3) (drop 3 (take end table))) k k' r →
        length k.kept ≡ 4096 → length k.withdrawn ≡ 4096 → length k.schedule ≡ 65536 →
        Prints (judge numbers) (answer_text (eqb (count - 3) (get_or (take end table) 0 0 * get_or (take end table) 0 0)) (get_or (take end table) 0 0) (get_or (take end table) 1 0) (get_or (take end table) 2 0) k'.kept r)
    stored_prints {k} {k'} r p lk lw ls =
        let n = get_or (take end table) 0 0 in
        let l = get_or (take end table) 1 0 in
        let rule = get_or (take end table) 2 0 in
        let listed : numbers ≡ n ∷ l ∷ rule ∷ drop 3 numbers = split numbers many ∙ cc (first 0 (omega arith), first 1 (omega arith), first 2 (omega arith)) in
        subst (λ m. Prints (judge m) (answer_text (eqb (count - 3) (n * n)) n l rule k'.kept r)) (sym listed)
        (subst (λ c. Prints (judge (n ∷ l ∷ rule ∷ drop 3 numbers)) (answer_text (eqb c (n * n)) n l rule k'.kept r)) counted
        (numbers_print n l rule k lk lw ls k' r (take (length (take end table) - 3) (drop 3 (take end table))) p (drop 3 numbers)
        (λ small e. demands (omega (arith, counted, s.counted, mul_small n n small small)))))

-- ---- the whole input
pub prints_long : (input : List ℕ) → 65536 < length input → Prints (outcome input) bad_input
unfolding outcome
prints_long input h = prints_bad (outcome input) bad_input (taken BadInput _ (lt-ltb 65536 (length input) h)) refl

pub prints_junk : (input : List ℕ) → length input ≤ 65536 → list_of input ≡ none → Prints (outcome input) bad_input
unfolding outcome judge_list
prints_junk input h e = prints_bad (outcome input) bad_input (left BadInput (le-ltb 65536 (length input) h) (ap judge_list e)) refl

pub prints_list : (input : List ℕ) {table text : List ℕ} {count : ℕ} → length input ≤ 65536 → (w : Holds input table count) → Prints (judge w.numbers) text → Prints (outcome input) text
unfolding outcome judge_list
prints_list input {text = text} h w p = subst (λ o. Prints o text) (sym (left BadInput (le-ltb 65536 (length input) h) (ap judge_list w.listed))) p
