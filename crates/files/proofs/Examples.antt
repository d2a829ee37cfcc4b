-- Request 101's words on scenario files, at their edges: each by computation, so that no definition can be changed together with the code unnoticed.
-- Assumes nothing.
use Prim.Native.Nat.{ℕ}
use mathlib.Core.Path.{◌≡◌, refl}
use mathlib.Core.Bool.{true, false}
use mathlib.Core.List.{List, [], ◌∷◌, ◌++◌, map}
use lib.ListN.{replicate}
use Rattle.sums.specs.Searches.{first_below, first_from}
use Rattle.sums.specs.Tables.{tab}
use Rattle.star.specs.declared.refusals.Refusal.TheVariants.{BadFile, TableShort}
use Rattle.star.specs.Refusals.{verdict_number, verdict_place, notice, accepted, check}
use Rattle.std.specs.Prelude.{Err}
use Rattle.star.specs.Checks.{sizes_verdict, rule_verdict, rule_and_limit_verdict, ranges_verdict, refuse, then}
use Rattle.files.specs.Format.{two, four, kind_of, place_of, matrix_at, post, frame, entry_of, scenario_of}
use Rattle.files.specs.declared.kinds.Kind.TheVariants.{Post, Frame}
use Rattle.files.specs.Kinds.{kind_number}
use Rattle.files.specs.Output.{Bytes, output_verdict, output_length}
use Rattle.files.specs.Reading.{table_bad, matrix_out, entry_bad_of, entry_bad, first_bad, Table, read_verdict, read_notice, read_answer}

-- ---- numbers
-- Low bytes come first: the second byte counts 256.
twos : map (λ (file : List ℕ). two file 0) ((1 ∷ 0 ∷ []) ∷ (0 ∷ 1 ∷ []) ∷ (255 ∷ 255 ∷ []) ∷ []) ≡ 1 ∷ 256 ∷ 65535 ∷ []
unfolding two
twos = refl

fours : map (λ (file : List ℕ). four file 0) ((0 ∷ 1 ∷ 0 ∷ 0 ∷ []) ∷ (0 ∷ 0 ∷ 1 ∷ 0 ∷ []) ∷ (0 ∷ 0 ∷ 0 ∷ 1 ∷ []) ∷ (255 ∷ 255 ∷ 255 ∷ 255 ∷ []) ∷ []) ≡ 256 ∷ 65536 ∷ 16777216 ∷ 4294967295 ∷ []
unfolding four two
fours = refl

-- a place counts from the file's start
places : map (two (7 ∷ 1 ∷ 2 ∷ 3 ∷ [])) (1 ∷ 2 ∷ []) ≡ 513 ∷ 770 ∷ []
unfolding two
places = refl

-- ---- the format: document 01's case n, N 1, L 4, B 6, rule 1, post 10, frame, post 3, frame
word : (x : ℕ) → List ℕ
word x = x ∷ 0 ∷ 0 ∷ 0 ∷ []

file_of : (n l limit rule entries : ℕ) (rest : List ℕ) → List ℕ
unfolding word
file_of n l limit rule entries rest = word n ++ word l ++ word limit ++ word rule ++ word entries ++ rest

case_n_lem : List ℕ
unfolding file_of word
case_n_lem = file_of 1 4 6 1 4 (word 0 ++ word 52 ++ word 1 ++ word 0 ++ word 0 ++ word 54 ++ word 1 ++ word 0 ++ (10 ∷ 0 ∷ 3 ∷ 0 ∷ []))

read_n : read_answer (read_verdict case_n_lem) case_n_lem ≡ Table 1 4 6 1 4
unfolding case_n_lem file_of word read_answer read_verdict ranges_verdict rule_and_limit_verdict rule_verdict sizes_verdict then table_bad first_bad entry_bad kind_of place_of four two refuse first_below first_from
read_n = refl

scenario_n_lem : scenario_of case_n_lem ≡ record { nodes = 1; slots = 4; limit = 6; rule = 1; entries = post (10 ∷ []) ∷ frame ∷ post (3 ∷ []) ∷ frame ∷ [] }
unfolding case_n_lem file_of word scenario_of entry_of kind_of place_of matrix_at four two tab
scenario_n_lem = refl

-- a matrix's cells stand in row order, two bytes each, at an odd place too
matrix : matrix_at 2 (9 ∷ 1 ∷ 0 ∷ 2 ∷ 0 ∷ 0 ∷ 1 ∷ 255 ∷ 255 ∷ []) 1 ≡ 1 ∷ 2 ∷ 256 ∷ 65535 ∷ []
unfolding matrix_at two tab
matrix = refl

-- ---- 10, place 0
-- 19 bytes, and 20 with no entry; 27 with one, and 28
cut_short : map table_bad (replicate 19 0 ∷ replicate 20 0 ∷ file_of 1 1 1 0 1 (replicate 7 0) ∷ file_of 1 1 1 0 1 (replicate 8 0) ∷ []) ≡ true ∷ false ∷ true ∷ false ∷ []
unfolding table_bad four two file_of word
cut_short = refl

-- 4,096 entries, and one more, in a file that has them all
many : List ℕ → List ℕ
unfolding word
many entries = word 1 ++ word 1 ++ word 1 ++ word 0 ++ entries ++ replicate 32776 0

too_many : map table_bad (many (0 ∷ 16 ∷ 0 ∷ 0 ∷ []) ∷ many (1 ∷ 16 ∷ 0 ∷ 0 ∷ []) ∷ []) ≡ false ∷ true ∷ []
unfolding table_bad four two many word
too_many = refl

-- a number of entries that eight bytes each would wrap in 32 bits
wrapping_entries : table_bad (word 1 ++ word 1 ++ word 1 ++ word 0 ++ (0 ∷ 0 ∷ 0 ∷ 32 ∷ [])) ≡ true
unfolding table_bad four two word
wrapping_entries = refl

-- ---- 10, place the entry
-- Wholly between the table of one entry, which ends at 28, and the end of 36 bytes: one byte too low, just so, one byte too high, and a place that
-- wraps in 32 bits. A post's place 0 lies in the table.
between : map (matrix_out 2 1 36) (0 ∷ 27 ∷ 28 ∷ 29 ∷ 4294967288 ∷ []) ≡ true ∷ true ∷ false ∷ true ∷ true ∷ []
between = refl

-- a frame's place is 0, all of it; kinds are 0 and 1, whole words
frames : map (entry_bad_of 2 1 36 1) (0 ∷ 1 ∷ 28 ∷ 16777216 ∷ []) ≡ false ∷ true ∷ true ∷ true ∷ []
frames = refl

kind_numbers : map kind_number (Post ∷ Frame ∷ []) ≡ 0 ∷ 1 ∷ []
kind_numbers = refl

kinds : map (λ kind. entry_bad_of 2 1 36 kind 0) (1 ∷ 2 ∷ 256 ∷ []) ≡ false ∷ true ∷ true ∷ []
kinds = refl

-- ---- the order: the first of two neighbours is given
-- An empty file is 10; one entry promised and none there with N 0 is 10; B 0 with rule 2 is 3. No entries are accepted.
order :
    map (λ file. verdict_number (read_verdict file)) ([] ∷ file_of 0 0 0 2 1 [] ∷ file_of 0 0 0 2 0 [] ∷ file_of 1 0 0 2 0 [] ∷ file_of 1 1 0 2 0 [] ∷ file_of 1 1 0 1 0 [] ∷ file_of 1 1 1 1 0 [] ∷ [])
    ≡ 10 ∷ 10 ∷ 1 ∷ 2 ∷ 3 ∷ 7 ∷ 0 ∷ []
unfolding read_verdict ranges_verdict rule_and_limit_verdict rule_verdict sizes_verdict then table_bad first_bad entry_bad four two refuse first_below first_from file_of word
order = refl

-- An unknown kind comes after 7; of two bad entries the first gives the place.
entries_order :
    map (λ file. notice (verdict_number (read_verdict file)) (verdict_place (read_verdict file)))
    (file_of 1 1 0 1 1 (word 2 ++ word 0) ∷ file_of 1 1 1 1 1 (word 2 ++ word 0) ∷ file_of 1 1 1 1 3 (word 1 ++ word 0 ++ word 1 ++ word 9 ++ word 2 ++ word 0) ∷ [])
    ≡ notice 7 0 ∷ notice 10 0 ∷ notice 10 1 ∷ []
unfolding read_verdict ranges_verdict rule_and_limit_verdict rule_verdict sizes_verdict then table_bad first_bad entry_bad kind_of place_of four two refuse first_below first_from file_of word
entries_order = refl

-- the same in numbers
numbers_order : read_notice (file_of 1 1 0 1 1 (word 2 ++ word 0)) ∷ read_notice (file_of 1 1 1 1 1 (word 1 ++ word 0)) ∷ [] ≡ notice 7 0 ∷ accepted ∷ []
unfolding read_notice table_bad first_bad entry_bad kind_of place_of four two check first_below first_from file_of word
numbers_order = refl

-- ---- calls that write bytes
output_lengths : map output_length (Bytes 56 ∷ Err TableShort ∷ []) ≡ 56 ∷ 0 ∷ []
output_lengths = refl

output_numbers : map (λ f. verdict_number (output_verdict f)) (Bytes 56 ∷ Err (BadFile 3) ∷ []) ≡ 0 ∷ 10 ∷ []
output_numbers = refl
