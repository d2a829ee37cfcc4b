-- How many posts there are, and how long each piece of the file is. Assumes nothing.
use Prim.Native.Nat.{ℕ, ◌+◌, ◌*◌, ◌≤◌}
use native.Mathlib.Nat.{mul-le-mul}
use native.Mathlib.Omega.{arith}
use mathlib.Core.Path.{◌≡◌, refl, ap, ◌∙◌}
use mathlib.Core.Bool.{Bool, true, false}
use mathlib.Core.List.{List}
use lib.Dec.{eqb}
use lib.ListN.{length, get_or, length-append}
use mir.Val.{bool_byte}
use Rattle.sums.specs.Sums.{sum_to, bit}
use Rattle.sums.proofs.Gates.{bit_most}
use Rattle.sums.proofs.Sums.{sum_one, sum_more, sum_part}
use Rattle.sums.proofs.Tables.{mul_small}
use Rattle.pieces.specs.Pieces.{join_to}
use Rattle.pieces.proofs.PieceLaws.{join_length}
use Rattle.file_writer.specs.Bytes.{posts_to, cells_in, two_bytes, four_bytes, sizes_bytes, entry_bytes, cell_bytes, file_bytes, file_length}

-- ---- posts
module _ (kinds : List ℕ) where
  pub posts_none : posts_to kinds 0 ≡ 0
  unfolding posts_to sum_to
  posts_none = refl

  pub posts_more : (e : ℕ) → posts_to kinds (e + 1) ≡ posts_to kinds e + bit (eqb (get_or kinds e 0) 0)
  unfolding posts_to
  posts_more e = sum_more e (λ k. bit (eqb (get_or kinds k 0) 0))

  -- a test as a number
  pub posts_next : (e : ℕ) → posts_to kinds (e + 1) ≡ posts_to kinds e + bool_byte (eqb (get_or kinds e 0) 0)
  posts_next e = posts_more e ∙ ap (λ b. posts_to kinds e + b) (as_byte (eqb (get_or kinds e 0) 0))
    where
      as_byte : (b : Bool) → bit b ≡ bool_byte b
      as_byte true = refl
      as_byte false = refl

  pub posts_few : (e : ℕ) → posts_to kinds e ≤ e
  unfolding posts_to
  posts_few e = sum_one e (λ k. bit (eqb (get_or kinds k 0) 0)) (λ k h. bit_most (eqb (get_or kinds k 0) 0))

  pub posts_part : (d e : ℕ) → d ≤ e → posts_to kinds d ≤ posts_to kinds e
  unfolding posts_to
  posts_part d e h = sum_part d e (λ k. bit (eqb (get_or kinds k 0) 0)) h

-- 4,096 posts of 64 nodes have few cells
pub cells_few : (n p : ℕ) → n ≤ 64 → p ≤ 4096 → p * (n * n) ≤ 16777216
cells_few n p hn hp = mul-le-mul hp (mul_small n n hn hn)

-- ---- lengths
pub length_two : (x : ℕ) → length (two_bytes x) ≡ 2
unfolding two_bytes
length_two x = refl

pub length_four : (x : ℕ) → length (four_bytes x) ≡ 4
unfolding four_bytes two_bytes
length_four x = refl

pub length_sizes : (n l limit rule entries : ℕ) → length (sizes_bytes n l limit rule entries) ≡ 20
unfolding sizes_bytes four_bytes two_bytes
length_sizes n l limit rule entries = refl

pub length_entry : (n : ℕ) (kinds : List ℕ) (e : ℕ) → length (entry_bytes n kinds e) ≡ 8
unfolding entry_bytes four_bytes two_bytes
length_entry n kinds e = refl

pub length_cell : (cells : List ℕ) (c : ℕ) → length (cell_bytes cells c) ≡ 2
unfolding cell_bytes two_bytes
length_cell cells c = refl

pub length_entries : (n : ℕ) (kinds : List ℕ) (e : ℕ) → length (join_to e (entry_bytes n kinds)) ≡ e * 8
length_entries n kinds e = join_length (entry_bytes n kinds) e 8 (λ k h. length_entry n kinds k)

pub length_cells : (cells : List ℕ) (c : ℕ) → length (join_to c (cell_bytes cells)) ≡ c * 2
length_cells cells c = join_length (cell_bytes cells) c 2 (λ k h. length_cell cells k)

pub length_file : (n l limit rule : ℕ) (kinds cells : List ℕ) → length (file_bytes n l limit rule kinds cells) ≡ file_length n kinds
unfolding file_bytes
length_file n l limit rule kinds cells =
    simp length-append
    (omega (arith, length_sizes n l limit rule (length kinds), length_entries n kinds (length kinds), length_cells cells (cells_in n kinds)))
