-- The bytes of numbers and of a whole file, what it reads as, and which refusal writing gives: each check by itself and with the next one in the
-- order. By computation. Assumes nothing.
use Prim.Native.Nat.{ℕ}
use mathlib.Core.Path.{◌≡◌, refl}
use mathlib.Core.List.{List, [], ◌∷◌, map}
use lib.ListN.{replicate}
use Rattle.sums.specs.Searches.{first_below, first_from}
use Rattle.sums.specs.Sums.{sum_to}
use Rattle.sums.specs.Tables.{tab, written}
use Rattle.star.specs.declared.refusals.Refusal.TheVariants.{TableShort}
use Rattle.star.specs.Refusals.{Accepted, Notice, notice, notice_of}
use Rattle.star.specs.Checks.{sizes_verdict, rule_verdict, rule_and_limit_verdict, ranges_verdict, refuse, then}
use Rattle.pieces.specs.Pieces.{join_to}
use Rattle.files.specs.Format.{post, frame, Scenario}
use Rattle.files.specs.Output.{Output, output_verdict, output_length}
use Rattle.file_writer.specs.Bytes.{posts_to, entry_from, scenario_from, two_bytes, four_bytes, sizes_bytes, entry_bytes, cell_bytes, file_bytes, file_length}
use Rattle.file_writer.specs.Writing.{first_unknown, cells_verdict, write_verdict, WriteResult}

-- ---- Low bytes come first.
two_bytes_lem : map two_bytes (0 ∷ 255 ∷ 256 ∷ 65535 ∷ []) ≡ (0 ∷ 0 ∷ []) ∷ (255 ∷ 0 ∷ []) ∷ (0 ∷ 1 ∷ []) ∷ (255 ∷ 255 ∷ []) ∷ []
unfolding two_bytes
two_bytes_lem = refl

four_bytes_lem : map four_bytes (1 ∷ 256 ∷ 65536 ∷ 4294967295 ∷ []) ≡ (1 ∷ 0 ∷ 0 ∷ 0 ∷ []) ∷ (0 ∷ 1 ∷ 0 ∷ 0 ∷ []) ∷ (0 ∷ 0 ∷ 1 ∷ 0 ∷ []) ∷ (255 ∷ 255 ∷ 255 ∷ 255 ∷ []) ∷ []
unfolding four_bytes two_bytes
four_bytes_lem = refl

-- ---- case n: N 1, L 4, B 6, rule 1, a post of 10, a frame, a post of 3, a frame. Its file has 20 bytes, 8 for each entry, 2 for each cell.
abbrev case_n : List ℕ
case_n =
    1 ∷ 0 ∷ 0 ∷ 0 ∷ 4 ∷ 0 ∷ 0 ∷ 0 ∷ 6 ∷ 0 ∷ 0 ∷ 0 ∷ 1 ∷ 0 ∷ 0 ∷ 0 ∷ 4 ∷ 0 ∷ 0 ∷ 0
    ∷ 0 ∷ 0 ∷ 0 ∷ 0 ∷ 52 ∷ 0 ∷ 0 ∷ 0
    ∷ 1 ∷ 0 ∷ 0 ∷ 0 ∷ 0 ∷ 0 ∷ 0 ∷ 0
    ∷ 0 ∷ 0 ∷ 0 ∷ 0 ∷ 54 ∷ 0 ∷ 0 ∷ 0
    ∷ 1 ∷ 0 ∷ 0 ∷ 0 ∷ 0 ∷ 0 ∷ 0 ∷ 0
    ∷ 10 ∷ 0 ∷ 3 ∷ 0 ∷ []

abbrev scenario_n : Scenario
scenario_n = record { nodes = 1; slots = 4; limit = 6; rule = 1; entries = post (10 ∷ []) ∷ frame ∷ post (3 ∷ []) ∷ frame ∷ [] }

case_n_bytes : file_bytes 1 4 6 1 (0 ∷ 1 ∷ 0 ∷ 1 ∷ []) (10 ∷ 3 ∷ []) ≡ case_n
unfolding file_bytes sizes_bytes entry_bytes cell_bytes four_bytes two_bytes posts_to join_to sum_to
case_n_bytes = refl

case_n_length : file_length 1 (0 ∷ 1 ∷ 0 ∷ 1 ∷ []) ≡ 56
unfolding posts_to sum_to
case_n_length = refl

case_n_tables : scenario_from 1 4 6 1 (0 ∷ 1 ∷ 0 ∷ 1 ∷ []) (10 ∷ 3 ∷ []) ≡ scenario_n
unfolding scenario_from entry_from posts_to tab sum_to
case_n_tables = refl

-- the length is answered; the bytes behind the file are as before, and where one is missing nothing is written
case_n_answer : (out out' : List ℕ) (r : Output) → WriteResult 1 4 6 1 (0 ∷ 1 ∷ 0 ∷ 1 ∷ []) (10 ∷ 3 ∷ []) out out' r → output_verdict r ≡ Accepted → output_length r ≡ 56
unfolding posts_to sum_to
case_n_answer out out' r x ok = (x.accepted ok).size

no_entries_after : (out' : List ℕ) (r : Output) → WriteResult 1 4 6 1 [] [] (replicate 22 9) out' r → output_verdict r ≡ Accepted →
    out' ≡ 1 ∷ 0 ∷ 0 ∷ 0 ∷ 4 ∷ 0 ∷ 0 ∷ 0 ∷ 6 ∷ 0 ∷ 0 ∷ 0 ∷ 1 ∷ 0 ∷ 0 ∷ 0 ∷ 0 ∷ 0 ∷ 0 ∷ 0 ∷ 9 ∷ 9 ∷ []
unfolding file_bytes sizes_bytes four_bytes two_bytes posts_to join_to sum_to written
no_entries_after out' r x ok = (x.accepted ok).bytes

refused_after : (out' : List ℕ) (r : Output) → WriteResult 1 4 6 1 [] [] (replicate 19 9) out' r → out' ≡ replicate 19 9
unfolding write_verdict ranges_verdict rule_and_limit_verdict rule_verdict sizes_verdict cells_verdict then refuse first_unknown first_below first_from posts_to sum_to
refused_after out' r x = x.refused TableShort x.answer

-- ---- two nodes, a post, a frame, a post: the first matrix stands after the table, at 44, the second 8 bytes on; 0 for the frame
two_posts : map (entry_bytes 2 (0 ∷ 1 ∷ 0 ∷ [])) (0 ∷ 1 ∷ 2 ∷ []) ≡ (0 ∷ 0 ∷ 0 ∷ 0 ∷ 44 ∷ 0 ∷ 0 ∷ 0 ∷ []) ∷ (1 ∷ 0 ∷ 0 ∷ 0 ∷ 0 ∷ 0 ∷ 0 ∷ 0 ∷ []) ∷ (0 ∷ 0 ∷ 0 ∷ 0 ∷ 52 ∷ 0 ∷ 0 ∷ 0 ∷ []) ∷ []
unfolding entry_bytes four_bytes two_bytes posts_to sum_to
two_posts = refl

-- the second post's cells are the second four of the table of all cells; a ninth is not read
second_post : entry_from 2 (0 ∷ 1 ∷ 0 ∷ []) (1 ∷ 2 ∷ 3 ∷ 4 ∷ 5 ∷ 6 ∷ 7 ∷ 8 ∷ 9 ∷ []) 2 ≡ post (5 ∷ 6 ∷ 7 ∷ 8 ∷ [])
unfolding entry_from posts_to tab sum_to
second_post = refl

-- ---- what is refused, given how many bytes are lent
abbrev writes : (n l limit rule : ℕ) (kinds cells : List ℕ) (bytes : ℕ) → Notice
writes n l limit rule kinds cells bytes = notice_of (write_verdict n l limit rule kinds cells bytes)

-- the checks of writing, each with the next one
pub record WriteGives : Type 0 where
  pub many_entries : writes 0 4 6 1 (replicate 4097 0) [] 0 ≡ notice 10 0
  pub most_entries : writes 0 4 6 1 (replicate 4096 2) [] 0 ≡ notice 1 0
  pub nodes : writes 0 0 6 1 (2 ∷ []) [] 0 ≡ notice 1 0
  pub slots : writes 1 0 6 2 (2 ∷ []) [] 0 ≡ notice 2 0
  pub rule : writes 1 4 0 2 (2 ∷ []) [] 0 ≡ notice 3 0
  pub limit : writes 1 4 0 1 (2 ∷ []) [] 0 ≡ notice 7 0
  pub unknown : writes 1 4 6 1 (0 ∷ 1 ∷ 2 ∷ []) [] 0 ≡ notice 10 2
  -- a whole machine word is looked at, and the first such entry gives the place
  pub first_unknown_lem : writes 1 4 6 1 (1 ∷ 256 ∷ 2 ∷ []) [] 0 ≡ notice 10 1
  pub missing : writes 1 4 6 1 (0 ∷ 0 ∷ []) (65536 ∷ []) 0 ≡ notice 4 0
  pub one_byte : writes 1 4 6 1 (0 ∷ []) (65536 ∷ []) 29 ≡ notice 5 0
  pub above : writes 1 4 6 1 (0 ∷ []) (65536 ∷ []) 30 ≡ notice 6 0
  -- N 1, two posts, 5 and 70,000: the place is 1, that of the cell among all
  pub second_above : writes 1 4 6 1 (0 ∷ 0 ∷ []) (5 ∷ 70000 ∷ []) 40 ≡ notice 6 1
  pub first_above : writes 2 4 6 1 (0 ∷ 1 ∷ 0 ∷ []) (0 ∷ 0 ∷ 0 ∷ 65535 ∷ 0 ∷ 65536 ∷ 65536 ∷ 0 ∷ []) 60 ≡ notice 6 5
  -- exactly enough bytes and cells, and the largest cell
  pub enough : writes 1 4 6 1 (0 ∷ []) (65535 ∷ []) 30 ≡ notice 0 0
  -- extra cells are not read
  pub extra_cells : writes 1 4 6 1 (0 ∷ 1 ∷ []) (5 ∷ 70000 ∷ []) 38 ≡ notice 0 0
  -- a file of no entries
  pub no_entries : writes 1 1 1 0 [] [] 20 ≡ notice 0 0
  pub cut_table : writes 1 1 1 0 [] [] 19 ≡ notice 5 0

write_gives : WriteGives
unfolding write_verdict ranges_verdict rule_and_limit_verdict rule_verdict sizes_verdict cells_verdict then refuse first_unknown first_below first_from posts_to sum_to
write_gives = record {
  many_entries = refl;
  most_entries = refl;
  nodes = refl;
  slots = refl;
  rule = refl;
  limit = refl;
  unknown = refl;
  first_unknown_lem = refl;
  missing = refl;
  one_byte = refl;
  above = refl;
  second_above = refl;
  first_above = refl;
  enough = refl;
  extra_cells = refl;
  no_entries = refl;
  cut_table = refl;
}
