-- The file of a caller's tables: `kinds` has the kind of each entry, and `cells` the posts' matrices one after the other.
use Rattle.std.specs.Prelude.{ℕ, ◌+◌, ◌*◌, ◌/◌, ◌%◌, cond, List, [], ◌∷◌, ◌++◌, eqb, length, get_or}
use Rattle.sums.specs.Sums.{sum_to, bit}
use Rattle.sums.specs.Tables.{tab}
use Rattle.pieces.specs.Pieces.{join_to}
use Rattle.files.specs.Format.{Entry, entry_of_kind, Scenario, table_end}

-- ---- what the tables say
-- how many of the first e entries are posts: kind 0
unfoldable pub posts_to : (kinds : List ℕ) (e : ℕ) → ℕ
posts_to kinds e = sum_to e (λ k. bit (eqb (get_or kinds k 0) 0))

-- how many cells the posts have in all, N×N each
abbrev pub cells_in : (n : ℕ) (kinds : List ℕ) → ℕ
cells_in n kinds = posts_to kinds (length kinds) * (n * n)

-- an entry: cell c of a post that has p posts before it is at p×N×N + c in the table of all cells
unfoldable pub entry_from : (n : ℕ) (kinds cells : List ℕ) (e : ℕ) → Entry
entry_from n kinds cells e = entry_of_kind (get_or kinds e 0) (tab (n * n) (λ c. get_or cells (posts_to kinds e * (n * n) + c) 0))

-- the scenario that the tables are
unfoldable pub scenario_from : (n l limit rule : ℕ) (kinds cells : List ℕ) → Scenario
scenario_from n l limit rule kinds cells = record {
  nodes = n;
  slots = l;
  limit = limit;
  rule = rule;
  entries = tab (length kinds) (entry_from n kinds cells);
}

-- ---- the bytes of its file
-- Low bytes come first: the bytes of a number of two ..
unfoldable pub two_bytes : ℕ → List ℕ
two_bytes x = x % 256 ∷ x / 256 ∷ []

-- .. and of one of four.
unfoldable pub four_bytes : ℕ → List ℕ
four_bytes x = two_bytes (x % 65536) ++ two_bytes (x / 65536)

-- Each post's matrix in turn: where that of an entry of this kind stands from the file's start, if so many posts are before it; 0 for a frame.
abbrev pub place_after : (n entries posts kind : ℕ) → ℕ
place_after n entries posts kind = cond (eqb kind 0) (table_end entries + 2 * (posts * (n * n))) 0

-- It starts with a table: N, L, B, the rule, the number of entries ..
unfoldable pub sizes_bytes : (n l limit rule entries : ℕ) → List ℕ
sizes_bytes n l limit rule entries = four_bytes n ++ four_bytes l ++ four_bytes limit ++ four_bytes rule ++ four_bytes entries

-- .. then each entry's kind and the place of its matrix; four bytes each.
unfoldable pub entry_bytes : (n : ℕ) (kinds : List ℕ) (e : ℕ) → List ℕ
entry_bytes n kinds e = four_bytes (get_or kinds e 0) ++ four_bytes (place_after n (length kinds) (posts_to kinds e) (get_or kinds e 0))

-- The matrices follow, cells of two bytes.
unfoldable pub cell_bytes : (cells : List ℕ) (c : ℕ) → List ℕ
cell_bytes cells c = two_bytes (get_or cells c 0)

-- the whole file
unfoldable pub file_bytes : (n l limit rule : ℕ) (kinds cells : List ℕ) → List ℕ
file_bytes n l limit rule kinds cells =
    sizes_bytes n l limit rule (length kinds) ++ join_to (length kinds) (entry_bytes n kinds) ++ join_to (cells_in n kinds) (cell_bytes cells)

-- how long it is
abbrev pub file_length : (n : ℕ) (kinds : List ℕ) → ℕ
file_length n kinds = table_end (length kinds) + 2 * cells_in n kinds
