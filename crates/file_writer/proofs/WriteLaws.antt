-- What an accepted write has passed, the verdict in numbers, and what an accepted write owes. Assumes nothing.
use Prim.Native.Nat.{ℕ, ◌≤◌, ◌<◌}
use native.Mathlib.Omega.{arith}
use mathlib.Core.Path.{◌≡◌, refl, sym, ◌∙◌, ap, ap₂, subst}
use mathlib.Core.List.{List}
use lib.Dec.{ltb}
use Rattle.std.proofs.Common.{get_or-take}
use lib.ListN.{length, get_or, take}
use lib.Seq.{length-take-le}
use borrow.Author.Tests.{ltb-false}
use Rattle.sums.specs.Tables.{written}
use Rattle.sums.proofs.Searches.{first_before}
use Rattle.star.specs.Refusals.{Accepted, notice_of, Ranges}
use Rattle.star.specs.Checks.{then}
use Rattle.star.proofs.RefusalLaws.{in_numbers, passed, then_passed, group_in_numbers, promise_done, ranged, each_within, ranges_in_numbers}
use Rattle.pieces.specs.declared.Pieces.{Pieces}
use Rattle.pieces.specs.Pieces.{Puts, join_to}
use Rattle.pieces.proofs.PieceLaws.{puts_more, puts_front, join_ext}
use Rattle.files.specs.Output.{Bytes}
use Rattle.file_writer.specs.Bytes.{posts_to, cells_in, two_bytes, sizes_bytes, entry_bytes, cell_bytes, file_bytes, file_length}
use Rattle.file_writer.specs.Writing.{first_unknown, cells_verdict, write_verdict, write_notice, WriteResult}
use Rattle.file_writer.proofs.ByteLaws.{posts_few, cells_few, length_file}

-- ---- what an accepted write has passed
pub record CanWrite (n l limit rule : ℕ) (kinds cells : List ℕ) (bytes : ℕ) : Type 0 where
  pub few : length kinds ≤ 4096
  pub ranges : Ranges n l rule limit
  pub known : (e : ℕ) → e < length kinds → get_or kinds e 0 ≤ 1
  pub there : cells_in n kinds ≤ length cells
  pub fits : file_length n kinds ≤ bytes
  pub low : (c : ℕ) → c < cells_in n kinds → get_or cells c 0 ≤ 65535

pub can_write : (n l limit rule : ℕ) (kinds cells : List ℕ) (bytes : ℕ) → write_verdict n l limit rule kinds cells bytes ≡ Accepted → CanWrite n l limit rule kinds cells bytes
unfolding write_verdict cells_verdict first_unknown
can_write n l limit rule kinds cells bytes e =
    let a = then_passed _ _ e in
    let b = then_passed _ _ a.1 in
    let c = then_passed _ _ b.1 in
    let d = passed _ _ _ c.1 in
    let f = passed _ _ _ d.1 in
    let kinds-known = ltb-false (first_unknown kinds) (length kinds) (passed _ _ _ c.0).0 in
    record {
      few = ltb-false _ _ (passed _ _ _ a.0).0;
      ranges = ranged _ _ _ _ b.0;
      known = λ k h. ltb-false _ _ (first_before (λ e. ltb 1 (get_or kinds e 0)) (length kinds) k (omega (arith, kinds-known)));
      there = ltb-false _ _ d.0;
      fits = ltb-false _ _ f.0;
      low = each_within (cells_in n kinds) cells (ltb-false _ _ (passed _ _ _ f.1).0);
    }

-- ---- the verdict in numbers
pub write_notice_lem : (n l limit rule : ℕ) (kinds cells : List ℕ) (bytes : ℕ) → notice_of (write_verdict n l limit rule kinds cells bytes) ≡ write_notice n l limit rule kinds cells bytes
unfolding write_verdict cells_verdict write_notice then
write_notice_lem n l limit rule kinds cells bytes =
    group_in_numbers _ _ _ _ (ranges_in_numbers _ _ _ _ _ (group_in_numbers _ _ _ _ (in_numbers _ _ _ (in_numbers _ _ _ (in_numbers _ _ _ refl)))))

-- ---- what an accepted write owes: sizes, entries and cells one after the other are the file
module _ (n l limit rule : ℕ) (kinds cells : List ℕ) {out : List ℕ} {o o1 o2 o3 : Pieces} {count : ℕ} (due : write_verdict n l limit rule kinds cells (length out) ≡ Accepted) (all : count ≡ cells_in n kinds) (bytes : o.out.now ≡ out) (start : o.at ≡ 0) (a : Puts o o1 (sizes_bytes n l limit rule (length kinds))) (b : Puts o1 o2 (join_to (length kinds) (entry_bytes n kinds))) (c : Puts o2 o3 (join_to (length (take count cells)) (cell_bytes (take count cells)))) where
  can : CanWrite n l limit rule kinds cells (length out)
  can = can_write n l limit rule kinds cells (length out) due

  -- the cells of the posts are the first in the table
  posts_cells : join_to (length (take count cells)) (cell_bytes (take count cells)) ≡ join_to (cells_in n kinds) (cell_bytes cells)
  unfolding cell_bytes
  posts_cells =
      let some : length (take count cells) ≡ count = length-take-le count cells (omega (arith, can.there, all)) in
      join_ext (length (take count cells)) (cell_bytes (take count cells)) (cell_bytes cells) (λ k h. ap two_bytes (get_or-take count cells k 0 (omega arith)))
      ∙ ap (λ m. join_to m (cell_bytes cells)) (some ∙ all)

  whole : Puts o o3 (file_bytes n l limit rule kinds cells)
  unfolding file_bytes
  whole = puts_more (puts_more a b) (subst (Puts o2 o3) posts_cells c)

  its_length : o3.at ≡ file_length n kinds
  its_length = omega (arith, start, whole.put.end, length_file n l limit rule kinds cells)

  -- a file has at most 33,587,220 bytes
  pub write_fits : o3.at ≤ 33587220
  write_fits =
      omega (arith, its_length, can.few, cells_few n (posts_to kinds (length kinds)) can.ranges.sizes.nodes (omega (arith, can.few, posts_few kinds (length kinds))))

  pub write_done : {last : List ℕ} → last ≡ o3.out.now → WriteResult n l limit rule kinds cells out last (Bytes o3.at)
  write_done {last} e =
      promise_done (sym due) (write_notice_lem n l limit rule kinds cells (length out)) out last refl
      (record { size = its_length; bytes = e ∙ puts_front start whole ∙ ap₂ (λ k before. written k (file_bytes n l limit rule kinds cells) before) (length_file n l limit rule kinds cells) bytes })
