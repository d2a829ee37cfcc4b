-- What the functions that write the text promise.
use Rattle.std.specs.Prelude.{ℕ, ◌≡◌, Bool, true, false, ◌||◌, List, leb, Ok, Err}
use Rattle.star.specs.declared.refusals.Refusal.{Refusal}
use Rattle.star.specs.Refusals.{Accepted, verdict_of, refusal_number, refusal_place}
use Rattle.star.specs.Rooms.{Square}
use Rattle.pieces.specs.declared.Pieces.{Pieces}
use Rattle.pieces.specs.Pieces.{Puts}
use Rattle.pieces.specs.Text.{bad_input, refusal_text}
use Rattle.planner.specs.Plans.{Answer}
use Rattle.number_list.specs.Reads.{Stored}
use Rattle.matrix_text.specs.Text.{plan_text}
use Rattle.matrix_text.specs.Outcomes.{judge, Prints}

-- What is printed of a refusal of `plan`, where `whole` says that the count of demands is right: 1, 2 and 3 come before the count, the others
-- after it.
unfoldable pub refused_text : (whole : Bool) → Refusal → List ℕ
refused_text whole x = elim (leb (refusal_number x) 3 || whole) [ true ↦ refusal_text (refusal_number x) (refusal_place x) | false ↦ bad_input ]

-- what is printed of an answer of `plan`
unfoldable pub answer_text : (whole : Bool) (n l rule : ℕ) (kept : List ℕ) → Answer → List ℕ
answer_text whole n l rule kept (Ok f) = elim whole [ true ↦ plan_text n l rule f.kept f.refused kept | false ↦ bad_input ]
answer_text whole n l rule kept (Err x) = refused_text whole x

-- a plan has a kept matrix to print
pub record Printable (n : ℕ) (kept : List ℕ) (r : Answer) : Type 0 where
  pub square : verdict_of r ≡ Accepted → Square n kept

-- the text for the numbers that the table stores is put
pub record Judged (table : List ℕ) (count : ℕ) (before after : Pieces) : Type 0 where
  pub text : List ℕ
  pub prints : (numbers : List ℕ) → Stored table count numbers → Prints (judge numbers) text
  pub puts : Puts before after text
