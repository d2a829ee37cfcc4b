-- What is printed of a plan, as bytes. Every number is printed without leading zeros and every line ends with a line feed.
use Rattle.std.specs.Prelude.{ℕ, ◌+◌, cond, List, ◌++◌, eqb}
use Rattle.sums.specs.Tables.{cell}
use Rattle.pieces.specs.Bytes.{bytes}
use Rattle.pieces.specs.Pieces.{join_to}
use Rattle.pieces.specs.Text.{line_feed, marked, named}

-- Line 1 gives N, L and the rule: `nodes 2 slots 10 rule 1`.
unfoldable pub head_text : (n l rule : ℕ) → List ℕ
head_text n l rule = named (bytes "nodes ") n ++ named (bytes " slots ") l ++ named (bytes " rule ") rule ++ line_feed

-- Line 2 gives the two totals: `kept 10 refused 2`.
unfoldable pub totals_text : (kept refused : ℕ) → List ℕ
totals_text kept refused = named (bytes "kept ") kept ++ named (bytes " refused ") refused ++ line_feed

-- what follows the number of destination j: a space, or a line feed after the last one
abbrev pub mark_after : (n j : ℕ) → ℕ
mark_after n j = cond (eqb (j + 1) n) 10 32

-- One line per source with its kept slots by destination.
unfoldable pub cell_text : (n : ℕ) (kept : List ℕ) (i j : ℕ) → List ℕ
cell_text n kept i j = marked (cell n kept i j) (mark_after n j)

unfoldable pub row_text : (n : ℕ) (kept : List ℕ) (i : ℕ) → List ℕ
row_text n kept i = join_to n (cell_text n kept i)

unfoldable pub rows_text : (n : ℕ) (kept : List ℕ) → List ℕ
rows_text n kept = join_to n (row_text n kept)

-- the plan without the schedule: N, L, the rule, the two totals, and the kept matrix
unfoldable pub plan_text : (n l rule keptTotal refusedTotal : ℕ) (kept : List ℕ) → List ℕ
plan_text n l rule keptTotal refusedTotal kept = head_text n l rule ++ totals_text keptTotal refusedTotal ++ rows_text n kept

-- Bytes enough for the longest text of numbers with at most ten digits: 64 lines of 64 numbers, each with the byte after it, under lines of at most
-- 50 and 35 bytes.
abbrev pub longest_text : ℕ
longest_text = 45141
