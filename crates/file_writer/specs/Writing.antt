-- What writing a file refuses, in which order, and what it answers and leaves in the lent bytes. All numbers are exact: nothing wraps.
use Rattle.std.specs.Prelude.{ℕ, ◌≡◌, List, ltb, length, get_or}
use Rattle.sums.specs.Searches.{first_below}
use Rattle.sums.specs.Tables.{written}
use Rattle.star.specs.declared.refusals.Refusal.TheVariants.{BadFile, DemandShort, TableShort, DemandAbove}
use Rattle.star.specs.Refusals.{Verdict, Accepted, Notice, accepted, check, Promise, nodes_out, slots_out, rule_out, limit_out, short, some_cell, first_above_in}
use Rattle.star.specs.Checks.{ranges_verdict, refuse, then}
use Rattle.files.specs.Output.{Output, output_verdict, output_length}
use Rattle.file_writer.specs.Bytes.{cells_in, file_bytes, file_length}

-- the first entry, from 0, with an unknown kind, neither 0 nor 1; or the number of entries
unfoldable pub first_unknown : (kinds : List ℕ) → ℕ
first_unknown kinds = first_below (length kinds) (λ e. ltb 1 (get_or kinds e 0))

-- 4, 5, 6: missing cells; fewer bytes lent than the file has; a cell above 65,535, place its index in the table of all cells. Cells beyond those
-- of the posts are not looked at.
unfoldable pub cells_verdict : (n : ℕ) (kinds cells : List ℕ) (bytes : ℕ) → Verdict
cells_verdict n kinds cells bytes =
    refuse (short (length cells) (cells_in n kinds)) DemandShort
    (refuse (short bytes (file_length n kinds)) TableShort
    (refuse (some_cell (cells_in n kinds) (first_above_in (cells_in n kinds) cells)) (DemandAbove (first_above_in (cells_in n kinds) cells))
    Accepted))

-- Writing 10 | 1, 2, 3, 7 | 10 | 4, 5, 6. Those of reading that apply come first: 10 with place 0 for over 4,096 entries, and later with the first
-- entry of an unknown kind as place. The last number says how many bytes are lent.
unfoldable pub write_verdict : (n l limit rule : ℕ) (kinds cells : List ℕ) (bytes : ℕ) → Verdict
write_verdict n l limit rule kinds cells bytes =
    then (refuse (ltb 4096 (length kinds)) (BadFile 0) Accepted)
    (then (ranges_verdict n l rule limit)
    (then (refuse (some_cell (length kinds) (first_unknown kinds)) (BadFile (first_unknown kinds)) Accepted)
    (cells_verdict n kinds cells bytes)))

-- the same in the documents' numbers, each with its place
unfoldable pub write_notice : (n l limit rule : ℕ) (kinds cells : List ℕ) (bytes : ℕ) → Notice
write_notice n l limit rule kinds cells bytes =
    check (ltb 4096 (length kinds)) 10 0
    (check (nodes_out n) 1 0
    (check (slots_out l) 2 0
    (check (rule_out rule) 3 0
    (check (limit_out limit) 7 0
    (check (some_cell (length kinds) (first_unknown kinds)) 10 (first_unknown kinds)
    (check (short (length cells) (cells_in n kinds)) 4 0
    (check (short bytes (file_length n kinds)) 5 0
    (check (some_cell (cells_in n kinds) (first_above_in (cells_in n kinds) cells)) 6 (first_above_in (cells_in n kinds) cells)
    accepted))))))))

-- an accepted write: the file's length is answered, the file stands at the front of the bytes, and those behind it are as before
pub record WriteDone (n l limit rule : ℕ) (kinds cells out out' : List ℕ) (r : Output) : Type 0 where
  pub size : output_length r ≡ file_length n kinds
  pub bytes : out' ≡ written (file_length n kinds) (file_bytes n l limit rule kinds cells) out

-- What `write_file` promises for every input. A refusal writes nothing.
abbrev pub WriteResult : (n l limit rule : ℕ) (kinds cells out out' : List ℕ) (r : Output) → Type 0
WriteResult n l limit rule kinds cells out out' r =
    Promise (output_verdict r) (write_verdict n l limit rule kinds cells (length out)) (write_notice n l limit rule kinds cells (length out))
    out out' (WriteDone n l limit rule kinds cells out out' r)
