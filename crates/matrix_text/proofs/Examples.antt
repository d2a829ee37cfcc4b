-- Inputs and what is printed for them, to the byte: document 01's example and the edges of its order, each by computation. Assumes nothing.
use Prim.Native.Nat.{ℕ}
use Prim.Native.String.{String}
use mathlib.Core.Path.{◌≡◌, refl}
use mathlib.Core.List.{List, [], ◌∷◌}
use lib.ListN.{length}
use Rattle.sums.specs.Sums.{sum_to}
use Rattle.sums.specs.Searches.{first_below, first_from}
use Rattle.sums.specs.Tables.{cell}
use Rattle.star.specs.Lines.{total}
use Rattle.star.specs.Refusals.{first_above}
use Rattle.pieces.specs.Bytes.{bytes}
use Rattle.pieces.specs.Pieces.{join_to}
use Rattle.pieces.specs.Text.{decimal, digits_in, marked, named, refusal_text}
use Rattle.number_list.specs.Input.{list_of, numbers_of, words_from, is_number, all_digits, value_from}
use Rattle.matrix_text.specs.Text.{head_text, totals_text, cell_text, row_text, rows_text, plan_text}
use Rattle.matrix_text.specs.Outcomes.{BadInput, outcome, judge_list, judge, outcome_text}

-- what is printed for an input whose plan has this kept matrix
abbrev plans : (input : String) (kept : List ℕ) (text : String) → Type 0
plans input kept text = outcome_text (outcome (bytes input)) kept ≡ bytes text

-- what is printed for an input that has no plan
abbrev says : (input text : String) → Type 0
says input text = (kept : List ℕ) → outcome_text (outcome (bytes input)) kept ≡ bytes text

record Examples : Type 0 where
  -- document 01's example, with the kept matrix that every plan of it has
  whole : plans "2 10 1 11 1 0 0" (9 ∷ 1 ∷ 0 ∷ 0 ∷ []) "nodes 2 slots 10 rule 1\nkept 10 refused 2\n9 1\n0 0\n"
  -- a line for each source, in it a number for each destination
  row_by_row : plans "2 10 0 1 2 3 4" (1 ∷ 2 ∷ 3 ∷ 4 ∷ []) "nodes 2 slots 10 rule 0\nkept 10 refused 0\n1 2\n3 4\n"
  -- the kept total, then the refused one
  totals : totals_text 7 15 ≡ bytes "kept 7 refused 15\n"
  -- one or more spaces or line feeds, also at either end; leading zeros are counted and not printed
  spaced : plans "\n 01 04  00\n\n05 " (4 ∷ []) "nodes 1 slots 4 rule 0\nkept 4 refused 1\n4\n"
  -- the ends of the ranges
  lowest : plans "1 1 0 0" (0 ∷ []) "nodes 1 slots 1 rule 0\nkept 0 refused 0\n0\n"
  highest : plans "1 1024 1 65535" (1024 ∷ []) "nodes 1 slots 1024 rule 1\nkept 1024 refused 64511\n1024\n"
  -- nine digits are a number, and ten are none, though their value is 1
  nine_digits : says "999999999 4 0 1" "refused 1 0\n"
  nine_digits_asked : says "1 4 0 999999999" "refused 6 0\n"
  ten_digits : says "0000000001 4 0 1" "bad input\n"
  -- fewer than three numbers
  nothing : says "" "bad input\n"
  two_numbers : says "0 0" "bad input\n"
  -- the form of the whole list comes before every refusal
  junk_first : says "0 0 9 x" "bad input\n"
  -- a tab parts nothing
  tab : says "1 4 0\t5" "bad input\n"
  -- refusal 1 before 2 and 3, and before the count
  no_nodes : says "0 0 9" "refused 1 0\n"
  many_nodes : says "65 4 0 1 2" "refused 1 0\n"
  -- refusal 2 before 3, and before the count
  no_slots : says "1 0 7" "refused 2 0\n"
  many_slots : says "1 1025 7" "refused 2 0\n"
  -- refusal 3 before the count
  no_rule : says "1 4 2" "refused 3 0\n"
  -- a wrong count of demands, also of 64 nodes, which are not too many
  no_demands : says "1 4 0" "bad input\n"
  most_nodes : says "64 4 0 1" "bad input\n"
  -- the count before refusal 6
  two_demands : says "1 4 0 65536 65536" "bad input\n"
  -- refusal 6, whose place is the first such cell
  above : says "2 4 0 0 0 0 65536" "refused 6 3\n"
  first_cell_above : says "2 4 0 0 65536 0 65536" "refused 6 1\n"
  -- input of 65,536 bytes is judged; a byte more is too many
  last_byte : (input : List ℕ) → length input ≡ 65536 → outcome input ≡ judge_list (list_of input)
  byte_too_many : (input : List ℕ) → length input ≡ 65537 → outcome input ≡ BadInput

examples : Examples
unfolding outcome judge_list judge list_of numbers_of words_from is_number all_digits value_from first_above first_below first_from
    outcome_text plan_text head_text totals_text refusal_text rows_text row_text cell_text join_to marked named decimal digits_in total sum_to cell
examples = record {
  whole = refl;
  row_by_row = refl;
  totals = refl;
  spaced = refl;
  lowest = refl;
  highest = refl;
  nine_digits = λ kept. refl;
  nine_digits_asked = λ kept. refl;
  ten_digits = λ kept. refl;
  nothing = λ kept. refl;
  two_numbers = λ kept. refl;
  junk_first = λ kept. refl;
  tab = λ kept. refl;
  no_nodes = λ kept. refl;
  many_nodes = λ kept. refl;
  no_slots = λ kept. refl;
  many_slots = λ kept. refl;
  no_rule = λ kept. refl;
  no_demands = λ kept. refl;
  most_nodes = λ kept. refl;
  two_demands = λ kept. refl;
  above = λ kept. refl;
  first_cell_above = λ kept. refl;
  last_byte = λ input e. rw e refl;
  byte_too_many = λ input e. rw e refl;
}
