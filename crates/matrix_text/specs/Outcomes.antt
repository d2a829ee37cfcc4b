-- What the matrix program does with an input, in document 01's order, and the text that it prints.
use Rattle.std.specs.Prelude.{ℕ, ◌-◌, ◌*◌, ◌≡◌, Bool, true, false, List, [], ◌∷◌, ltb, eqb, length}
use Rattle.std.proofs.Math.Option.{Option, none, some}
use Rattle.star.specs.declared.refusals.Refusal.{Refusal}
use Rattle.star.specs.declared.refusals.Refusal.TheVariants.{Nodes, Slots, Rule, DemandAbove}
use Rattle.star.specs.Refusals.{nodes_out, slots_out, rule_out, some_cell, first_above, refusal_number, refusal_place}
use Rattle.star.specs.Lines.{total, whole_frame}
use Rattle.pieces.specs.Text.{bad_input, refusal_text}
use Rattle.planner.specs.Plans.{Plan}
use Rattle.planner.specs.Lent.{Lent}
use Rattle.number_list.specs.Input.{list_of}
use Rattle.matrix_text.specs.Text.{plan_text}

-- what the program answers an input with
pub data Outcome : Type 0 where
  BadInput : Outcome
  Refuses : Refusal → Outcome
  Plans : (n l rule : ℕ) (d : List ℕ) → Outcome

-- what is so where a test holds, and what is so elsewhere
abbrev pub or_else : Bool → Outcome → Outcome → Outcome
or_else true first later = first
or_else false first later = later

-- Input with fewer than three numbers prints `bad input`. Then refusals 1, 2, 3 are given; then a wrong count of demands prints `bad input`;
-- then 6.
unfoldable pub judge : List ℕ → Outcome
judge [] = BadInput
judge (n ∷ []) = BadInput
judge (n ∷ l ∷ []) = BadInput
judge (n ∷ l ∷ rule ∷ d) =
    or_else (nodes_out n) (Refuses Nodes)
    (or_else (slots_out l) (Refuses Slots)
    (or_else (rule_out rule) (Refuses Rule)
    (elim (eqb (length d) (n * n)) [
      | false ↦ BadInput
      | true ↦ or_else (some_cell (n * n) (first_above n d)) (Refuses (DemandAbove (first_above n d))) (Plans n l rule d)
    ])))

-- what is not such a list prints `bad input`
unfoldable pub judge_list : Option (List ℕ) → Outcome
judge_list none = BadInput
judge_list (some numbers) = judge numbers

-- Input over 65,536 bytes prints `bad input`.
unfoldable pub outcome : List ℕ → Outcome
outcome input = or_else (ltb 65536 (length input)) BadInput (judge_list (list_of input))

-- the text of an outcome, where `kept` is the kept matrix; the refused total is D's total minus the kept total
unfoldable pub outcome_text : Outcome → (kept : List ℕ) → List ℕ
outcome_text BadInput kept = bad_input
outcome_text (Refuses r) kept = refusal_text (refusal_number r) (refusal_place r)
outcome_text (Plans n l rule d) kept = plan_text n l rule (total n kept) (total n d - total n kept) kept

-- The text for an outcome: where a plan is printed, there is one with this kept matrix. Under rule 0 and without a plan this fixes the text;
-- under rule 1 which greatest withdrawn matrix is found is free, and kept follows from it.
pub record Prints (o : Outcome) (text : List ℕ) : Type 0 where
  pub plan : Lent
  pub planned : (n l rule : ℕ) (d : List ℕ) → o ≡ Plans n l rule d → Plan n l rule (whole_frame n l) d plan
  pub printed : text ≡ outcome_text o plan.kept
