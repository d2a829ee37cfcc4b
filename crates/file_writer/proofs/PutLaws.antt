-- The file's pieces put one after the other: one entry more, one cell more. Assumes nothing.
use Prim.Native.Nat.{ℕ, ◌+◌}
use mathlib.Core.Path.{◌≡◌, ◌∙◌, ap, subst}
use mathlib.Core.List.{List}
use lib.ListN.{length, get_or}
use Rattle.pieces.specs.declared.Pieces.{Pieces}
use Rattle.pieces.specs.Pieces.{Puts, join_to}
use Rattle.pieces.proofs.PieceLaws.{puts_more, join_more}
use Rattle.file_writer.specs.Bytes.{posts_to, two_bytes, four_bytes, place_after, entry_bytes, cell_bytes}

pub put_entry : {first before mid after : Pieces} (n : ℕ) (kinds : List ℕ) (e : ℕ) {posts place : ℕ} → posts ≡ posts_to kinds e → Puts first before (join_to e (entry_bytes n kinds)) →
    Puts before mid (four_bytes (get_or kinds e 0)) → place ≡ place_after n (length kinds) posts (get_or kinds e 0) → Puts mid after (four_bytes place) →
    Puts first after (join_to (e + 1) (entry_bytes n kinds))
unfolding entry_bytes
put_entry {mid = mid} {after = after} n kinds e count so_far kind is there =
    let place_is = is ∙ ap (λ p. place_after n (length kinds) p (get_or kinds e 0)) count in
    rw (join_more (entry_bytes n kinds) e) (puts_more so_far (puts_more kind (subst (λ p. Puts mid after (four_bytes p)) place_is there)))

pub put_cell : {first before after : Pieces} (cells : List ℕ) (c : ℕ) → Puts first before (join_to c (cell_bytes cells)) → Puts before after (two_bytes (get_or cells c 0)) →
    Puts first after (join_to (c + 1) (cell_bytes cells))
unfolding cell_bytes
put_cell cells c so_far here = rw (join_more (cell_bytes cells) c) (puts_more so_far here)
