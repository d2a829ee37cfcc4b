-- How long the rows of a plan are: their numbers have 32 bits, which are at most ten digits. The laws assume nothing.
use Prim.Native.Nat.{ℕ, ◌+◌, ◌*◌, ◌≤◌, ◌<◌}
use native.Mathlib.Omega.{arith}
use mathlib.Core.List.{List}
use lib.ListN.{length, get_or}
use Rattle.sums.specs.Tables.{cell}
use Rattle.sums.proofs.Tables.{mul_small}
use Rattle.pieces.proofs.PieceLaws.{join_most}
use Rattle.pieces.proofs.TextLaws.{decimal_length, marked_length}
use Rattle.matrix_text.specs.Text.{mark_after, cell_text, row_text, rows_text}

module _ (n : ℕ) (kept : List ℕ) (words : (p : ℕ) → get_or kept p 0 < 4294967296) where
  cell_length : (i j : ℕ) → length (cell_text n kept i j) ≤ 11
  unfolding cell_text cell
  cell_length i j = omega (arith, marked_length (get_or kept (i * n + j) 0) (mark_after n j), decimal_length 9 (get_or kept (i * n + j) 0) (omega (arith, words (i * n + j))))

  row_length : (i : ℕ) → length (row_text n kept i) ≤ n * 11
  unfolding row_text
  row_length i = join_most (cell_text n kept i) n 11 (λ j h. cell_length i j)

  pub rows_length : n ≤ 64 → length (rows_text n kept) ≤ 45056
  unfolding rows_text
  rows_length few = omega (arith, join_most (row_text n kept) n (n * 11) (λ i h. row_length i), mul_small n n few few)
