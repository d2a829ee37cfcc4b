-- What reading a file refuses, in which order, and what it answers. All numbers are exact: nothing wraps.
use Rattle.std.specs.Prelude.{ℕ, ◌+◌, ◌*◌, ◌≡◌, Bool, true, cond, not, ◌||◌, List, length, ltb, eqb, Result, Ok, Err}
use Rattle.sums.specs.Searches.{first_below}
use Rattle.star.specs.declared.refusals.Refusal.{Refusal}
use Rattle.star.specs.declared.refusals.Refusal.TheVariants.{BadFile}
use Rattle.star.specs.Refusals.{Verdict, Accepted, verdict_of, Notice, notice_of, accepted, check, nodes_out, slots_out, rule_out, limit_out, some_cell}
use Rattle.star.specs.Checks.{ranges_verdict, refuse, then}
use Rattle.files.specs.declared.reading.Head.{Head}
use Rattle.files.specs.Format.{nodes_of, slots_of, limit_of, rule_of, entries_of, kind_of, place_of, table_end}

-- a table cut short or over 4,096 entries
unfoldable pub table_bad : (file : List ℕ) → Bool
table_bad file = ltb (length file) 20 || ltb 4096 (entries_of file) || ltb (length file) (table_end (entries_of file))

-- a matrix not wholly between the table and the file's end, which has so many bytes
abbrev pub matrix_out : (n entries size at : ℕ) → Bool
matrix_out n entries size at = ltb at (table_end entries) || ltb size (at + 2 * (n * n))

-- an unknown kind, a frame's place not 0, or a post's matrix that is out
abbrev pub entry_bad_of : (n entries size kind at : ℕ) → Bool
entry_bad_of n entries size kind at = cond (eqb kind 0) (matrix_out n entries size at) (cond (eqb kind 1) (not (eqb at 0)) true)

unfoldable pub entry_bad : (n entries : ℕ) (file : List ℕ) (e : ℕ) → Bool
entry_bad n entries file e = entry_bad_of n entries (length file) (kind_of file e) (place_of file e)

-- the first such entry, from 0, or the number of entries
unfoldable pub first_bad : (n entries : ℕ) (file : List ℕ) → ℕ
first_bad n entries file = first_below entries (entry_bad n entries file)

-- Reading 10 | 1, 2, 3, 7 | 10: first with place 0 for a table cut short or over 4,096 entries, then with the first bad entry as place.
unfoldable pub read_verdict : (file : List ℕ) → Verdict
read_verdict file =
    then (refuse (table_bad file) (BadFile 0) Accepted)
    (then (ranges_verdict (nodes_of file) (slots_of file) (rule_of file) (limit_of file))
    (refuse (some_cell (entries_of file) (first_bad (nodes_of file) (entries_of file) file)) (BadFile (first_bad (nodes_of file) (entries_of file) file)) Accepted))

-- the same in the documents' numbers, each with its place
unfoldable pub read_notice : (file : List ℕ) → Notice
read_notice file =
    check (table_bad file) 10 0
    (check (nodes_out (nodes_of file)) 1 0
    (check (slots_out (slots_of file)) 2 0
    (check (rule_out (rule_of file)) 3 0
    (check (limit_out (limit_of file)) 7 0
    (check (some_cell (entries_of file) (first_bad (nodes_of file) (entries_of file) file)) 10 (first_bad (nodes_of file) (entries_of file) file)
    accepted)))))

-- the head of a file: what its first 20 bytes say
abbrev pub head_of : (file : List ℕ) → Head
head_of file = record { nodes = nodes_of file; slots = slots_of file; limit = limit_of file; rule = rule_of file; entries = entries_of file }

-- what reading answers: a table's numbers, or a refusal
abbrev pub Reading : Type 0
Reading = Result Head Refusal

abbrev pub Table : (n l limit rule entries : ℕ) → Reading
Table n l limit rule entries = Ok (record { nodes = n; slots = l; limit = limit; rule = rule; entries = entries })

-- the verdict of a reading
abbrev pub reading_verdict : Reading → Verdict
reading_verdict r = verdict_of r

-- what is read, given the verdict: the table's numbers, or the refusal
unfoldable pub read_answer : (v : Verdict) (file : List ℕ) → Reading
read_answer (Ok _) file = Table (nodes_of file) (slots_of file) (limit_of file) (rule_of file) (entries_of file)
read_answer (Err r) file = Err r

-- what `read` promises for every file
pub record ReadResult (file : List ℕ) (r : Reading) : Type 0 where
  pub answer : r ≡ read_answer (read_verdict file) file
  pub notice : notice_of (reading_verdict r) ≡ read_notice file
