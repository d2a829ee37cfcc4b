-- What is written reads back the same. Each number is read by its own bytes alone, and each piece of the file has its known length, so that every
-- place of the format leads to the piece that was put there; the checks of reading then follow from those of writing. Assumes nothing.
use Prim.Native.Nat.{ℕ, ◌+◌, ◌*◌, ◌≤◌, ◌<◌}
use native.Mathlib.Nat.{mul-le-mul_right}
use native.Mathlib.Omega.{arith}
use mathlib.Core.Path.{◌≡◌, refl, sym, ◌∙◌, ap, ap₂}
use mathlib.Core.Bool.{cond}
use mathlib.Core.List.{List, ◌++◌}
use lib.Arith.{digits_lt}
use lib.Dec.{eqb}
use lib.ListN.{length, get_or, take, length-append, get_or-append}
use lib.Seq.{get_or-append-add}
use borrow.Author.Tests.{eq-eqb, ne_eqb}
use Rattle.sums.specs.Sums.{bit}
use Rattle.sums.specs.Tables.{tab}
use Rattle.sums.proofs.Cases.{by_eq}
use Rattle.sums.proofs.Tables.{tab_ext, written_first}
use Rattle.pieces.specs.Pieces.{join_to}
use Rattle.pieces.proofs.PieceLaws.{join_at}
use Rattle.files.specs.Output.{Bytes}
use Rattle.files.specs.Format.{two, four, nodes_of, slots_of, limit_of, rule_of, entries_of, kind_of, place_of, table_end, matrix_at, post, entry_of, scenario_of}
use Rattle.files.proofs.ReadLaws.{Good, Sound, sound_accepted, head_read}
use Rattle.file_writer.specs.Bytes.{posts_to, cells_in, two_bytes, four_bytes, sizes_bytes, place_after, entry_bytes, cell_bytes, file_bytes, file_length, entry_from, scenario_from}
use Rattle.file_writer.specs.Theorems.{ReadsBack}
use Rattle.file_writer.specs.Writing.{WriteResult}
use Rattle.file_writer.proofs.ByteLaws.{length_sizes, length_entry, length_entries, length_cell, length_file, posts_more, posts_part}
use Rattle.file_writer.proofs.WriteLaws.{CanWrite, can_write}

-- ---- a number is read by its own bytes alone
two_ext : (f g : List ℕ) (p q : ℕ) → ((b : ℕ) → b < 2 → get_or f (p + b) 0 ≡ get_or g (q + b) 0) → two f p ≡ two g q
unfolding two
two_ext f g p q same =
    let d : p + 0 ≡ p = omega arith in
    let e : q + 0 ≡ q = omega arith in
    ap₂ (λ x y. x + 256 * y) (sym (ap (λ i. get_or f i 0) d) ∙ same 0 (omega arith) ∙ ap (λ i. get_or g i 0) e) (same 1 (omega arith))

four_ext : (f g : List ℕ) (p q : ℕ) → ((b : ℕ) → b < 4 → get_or f (p + b) 0 ≡ get_or g (q + b) 0) → four f p ≡ four g q
unfolding four
four_ext f g p q same =
    ap₂ (λ x y. x + 65536 * y)
    (two_ext f g p q (λ b h. same b (omega arith)))
    (two_ext f g (p + 2) (q + 2) (λ b h.
    let d : p + 2 + b ≡ p + (2 + b) = omega arith in
    let e : q + 2 + b ≡ q + (2 + b) = omega arith in
    rw (d, e) (same (2 + b) (omega arith))))

module _ (a b : List ℕ) where
  -- in the first of two pieces
  four_front : (p : ℕ) → p + 4 ≤ length a → four (a ++ b) p ≡ four a p
  four_front p h = four_ext (a ++ b) a p p (λ k lt. get_or-append a b 0 (p + k) (omega arith))

  -- in the second
  four_back : (m p : ℕ) → length a ≡ m → four (a ++ b) (m + p) ≡ four b p
  four_back m p e = four_ext (a ++ b) b (m + p) p (λ k lt. let d : m + p + k ≡ length a + (p + k) = omega arith in rw d (get_or-append-add a b (p + k) 0))

  two_back : (m p : ℕ) → length a ≡ m → two (a ++ b) (m + p) ≡ two b p
  two_back m p e = two_ext (a ++ b) b (m + p) p (λ k lt. let d : m + p + k ≡ length a + (p + k) = omega arith in rw d (get_or-append-add a b (p + k) 0))

-- ---- the pieces
module _ (n l limit rule entries : ℕ) where
  sizes_nodes : four (sizes_bytes n l limit rule entries) 0 ≡ n
  unfolding sizes_bytes four_bytes two_bytes four two
  sizes_nodes = omega arith

  sizes_slots : four (sizes_bytes n l limit rule entries) 4 ≡ l
  unfolding sizes_bytes four_bytes two_bytes four two
  sizes_slots = omega arith

  sizes_limit : four (sizes_bytes n l limit rule entries) 8 ≡ limit
  unfolding sizes_bytes four_bytes two_bytes four two
  sizes_limit = omega arith

  sizes_rule : four (sizes_bytes n l limit rule entries) 12 ≡ rule
  unfolding sizes_bytes four_bytes two_bytes four two
  sizes_rule = omega arith

  sizes_entries : four (sizes_bytes n l limit rule entries) 16 ≡ entries
  unfolding sizes_bytes four_bytes two_bytes four two
  sizes_entries = omega arith

module _ (n : ℕ) (kinds : List ℕ) (e : ℕ) where
  entry_kind : four (entry_bytes n kinds e) 0 ≡ get_or kinds e 0
  unfolding entry_bytes four_bytes two_bytes four two
  entry_kind = omega arith

  entry_place : four (entry_bytes n kinds e) 4 ≡ place_after n (length kinds) (posts_to kinds e) (get_or kinds e 0)
  unfolding entry_bytes four_bytes two_bytes four two
  entry_place = omega arith

  -- in the table
  table_at : (b : ℕ) → e < length kinds → b + 4 ≤ 8 → four (join_to (length kinds) (entry_bytes n kinds)) (8 * e + b) ≡ four (entry_bytes n kinds e) b
  table_at b he hb =
      four_ext (join_to (length kinds) (entry_bytes n kinds)) (entry_bytes n kinds e) (8 * e + b) b (λ k lt.
      let d : 8 * e + b + k ≡ e * 8 + (b + k) = omega arith in
      rw d (join_at (entry_bytes n kinds) (length kinds) 8 e (b + k) (λ j h. length_entry n kinds j) he (omega arith)))

cell_value : (cells : List ℕ) (c : ℕ) → two (cell_bytes cells c) 0 ≡ get_or cells c 0
unfolding cell_bytes two_bytes two
cell_value cells c = omega arith

-- among the cells
cells_at : (cells : List ℕ) (count c : ℕ) → c < count → two (join_to count (cell_bytes cells)) (2 * c) ≡ get_or cells c 0
cells_at cells count c h =
    two_ext (join_to count (cell_bytes cells)) (cell_bytes cells c) (2 * c) 0 (λ k lt.
    let d : 2 * c + k ≡ c * 2 + k = omega arith in
    let e : 0 + k ≡ k = omega arith in
    rw (d, e) (join_at (cell_bytes cells) count 2 c k (λ j p. length_cell cells j) h lt))
    ∙ cell_value cells c

-- ---- the file
module _ (n l limit rule : ℕ) (kinds cells : List ℕ) where
  table_size : length (sizes_bytes n l limit rule (length kinds) ++ join_to (length kinds) (entry_bytes n kinds)) ≡ table_end (length kinds)
  table_size =
      length-append (sizes_bytes n l limit rule (length kinds)) (join_to (length kinds) (entry_bytes n kinds))
      ∙ omega (arith, length_sizes n l limit rule (length kinds), length_entries n kinds (length kinds))

  in_front : (p : ℕ) → p + 4 ≤ 20 → four (file_bytes n l limit rule kinds cells) p ≡ four (sizes_bytes n l limit rule (length kinds)) p
  unfolding file_bytes
  in_front p h =
      four_front (sizes_bytes n l limit rule (length kinds) ++ join_to (length kinds) (entry_bytes n kinds)) (join_to (cells_in n kinds) (cell_bytes cells)) p (omega (arith, table_size))
      ∙ four_front (sizes_bytes n l limit rule (length kinds)) (join_to (length kinds) (entry_bytes n kinds)) p (omega (arith, length_sizes n l limit rule (length kinds)))

  in_table : (e b : ℕ) → e < length kinds → b + 4 ≤ 8 → four (file_bytes n l limit rule kinds cells) (20 + (8 * e + b)) ≡ four (entry_bytes n kinds e) b
  unfolding file_bytes
  in_table e b he hb =
      four_front (sizes_bytes n l limit rule (length kinds) ++ join_to (length kinds) (entry_bytes n kinds)) (join_to (cells_in n kinds) (cell_bytes cells)) (20 + (8 * e + b)) (omega (arith, table_size))
      ∙ four_back (sizes_bytes n l limit rule (length kinds)) (join_to (length kinds) (entry_bytes n kinds)) 20 (8 * e + b) (length_sizes n l limit rule (length kinds))
      ∙ table_at n kinds e b he hb

  in_cells : (c : ℕ) → c < cells_in n kinds → two (file_bytes n l limit rule kinds cells) (table_end (length kinds) + 2 * c) ≡ get_or cells c 0
  unfolding file_bytes
  in_cells c h =
      two_back (sizes_bytes n l limit rule (length kinds) ++ join_to (length kinds) (entry_bytes n kinds)) (join_to (cells_in n kinds) (cell_bytes cells)) (table_end (length kinds)) (2 * c) table_size
      ∙ cells_at cells (cells_in n kinds) c h

  nodes_back : nodes_of (file_bytes n l limit rule kinds cells) ≡ n
  nodes_back = in_front 0 (omega arith) ∙ sizes_nodes n l limit rule (length kinds)

  slots_back : slots_of (file_bytes n l limit rule kinds cells) ≡ l
  slots_back = in_front 4 (omega arith) ∙ sizes_slots n l limit rule (length kinds)

  limit_back : limit_of (file_bytes n l limit rule kinds cells) ≡ limit
  limit_back = in_front 8 (omega arith) ∙ sizes_limit n l limit rule (length kinds)

  rule_back : rule_of (file_bytes n l limit rule kinds cells) ≡ rule
  rule_back = in_front 12 (omega arith) ∙ sizes_rule n l limit rule (length kinds)

  entries_back : entries_of (file_bytes n l limit rule kinds cells) ≡ length kinds
  entries_back = in_front 16 (omega arith) ∙ sizes_entries n l limit rule (length kinds)

  module _ (e : ℕ) (he : e < length kinds) where
    kind_back : kind_of (file_bytes n l limit rule kinds cells) e ≡ get_or kinds e 0
    unfolding kind_of
    kind_back =
        let d : 20 + 8 * e ≡ 20 + (8 * e + 0) = omega arith in
        ap (four (file_bytes n l limit rule kinds cells)) d ∙ in_table e 0 he (omega arith) ∙ entry_kind n kinds e

    place_back : place_of (file_bytes n l limit rule kinds cells) e ≡ place_after n (length kinds) (posts_to kinds e) (get_or kinds e 0)
    unfolding place_of
    place_back =
        let d : 24 + 8 * e ≡ 20 + (8 * e + 4) = omega arith in
        ap (four (file_bytes n l limit rule kinds cells)) d ∙ in_table e 4 he (omega arith) ∙ entry_place n kinds e

    module _ (is-post : get_or kinds e 0 ≡ 0) where
      post_place : place_of (file_bytes n l limit rule kinds cells) e ≡ table_end (length kinds) + 2 * (posts_to kinds e * (n * n))
      post_place = place_back ∙ ap (λ k. place_after n (length kinds) (posts_to kinds e) k) is-post

      -- this post is one of all
      one_of_all : posts_to kinds e < posts_to kinds (length kinds)
      one_of_all =
          let one : bit (eqb (get_or kinds e 0) 0) ≡ 1 = ap bit (eq-eqb (get_or kinds e 0) 0 is-post) in
          omega (arith, one, posts_more kinds e, posts_part kinds (e + 1) (length kinds) (omega arith))

      cell_back : (c : ℕ) → c < n * n → two (file_bytes n l limit rule kinds cells) (place_of (file_bytes n l limit rule kinds cells) e + 2 * c) ≡ get_or cells (posts_to kinds e * (n * n) + c) 0
      cell_back c h =
          let d : place_of (file_bytes n l limit rule kinds cells) e + 2 * c ≡ table_end (length kinds) + 2 * (posts_to kinds e * (n * n) + c) = omega (arith, post_place) in
          ap (two (file_bytes n l limit rule kinds cells)) d ∙ in_cells (posts_to kinds e * (n * n) + c) (digits_lt one_of_all h)

    frame_place : (get_or kinds e 0 ≡ 0 → ⊥) → place_of (file_bytes n l limit rule kinds cells) e ≡ 0
    frame_place ne = place_back ∙ ap (λ b. cond b (table_end (length kinds) + 2 * (posts_to kinds e * (n * n))) 0) (ne_eqb (get_or kinds e 0) 0 ne)

    entry_back : entry_of (file_bytes n l limit rule kinds cells) e ≡ entry_from n kinds cells e
    unfolding entry_of entry_from matrix_at
    entry_back =
        by_eq (get_or kinds e 0) 0
        (λ z.
        rw (kind_back, z, nodes_back)
        (ap post (tab_ext (n * n) _ _ (λ c h. cell_back z c h))))
        (λ ne.
        rw (kind_back, ne_eqb (get_or kinds e 0) 0 ne) refl)

  scenario_back : scenario_of (file_bytes n l limit rule kinds cells) ≡ scenario_from n l limit rule kinds cells
  unfolding scenario_of scenario_from
  scenario_back =
      let same : tab (entries_of (file_bytes n l limit rule kinds cells)) (entry_of (file_bytes n l limit rule kinds cells)) ≡ tab (length kinds) (entry_from n kinds cells)
      = ap (λ m. tab m (entry_of (file_bytes n l limit rule kinds cells))) entries_back ∙ tab_ext (length kinds) _ _ (λ e h. entry_back e h) in
      rw (nodes_back, slots_back, limit_back, rule_back, same) refl

  module _ {bytes : ℕ} (w : CanWrite n l limit rule kinds cells bytes) where
    size : length (file_bytes n l limit rule kinds cells) ≡ file_length n kinds
    size = length_file n l limit rule kinds cells

    good : (e : ℕ) → e < length kinds → Good n (length kinds) (file_length n kinds) (get_or kinds e 0) (place_of (file_bytes n l limit rule kinds cells) e)
    good e h = record {
      known = w.known e h;
      low = λ z. omega (arith, post_place e h z);
      high = λ z. omega (arith, post_place e h z, mul-le-mul_right (n * n) (one_of_all e h z));
      frames = λ o. frame_place e h (λ z. omega arith);
    }

    pub file_sound : Sound (file_bytes n l limit rule kinds cells)
    file_sound = record {
      table = record { head = omega (arith, size); few = omega (arith, entries_back, w.few); all = omega (arith, size, entries_back) };
      ranges = rw (nodes_back, slots_back, rule_back, limit_back) w.ranges;
      entries = λ e h. let h' : e < length kinds = omega (arith, entries_back) in rw (nodes_back, entries_back, size, kind_back e h') (good e h');
    }

    pub reads_back : ReadsBack n l limit rule kinds cells (file_bytes n l limit rule kinds cells)
    reads_back =
        let accepted = sound_accepted (file_bytes n l limit rule kinds cells) file_sound in
        record {
          accepted = accepted;
          answered = sym (head_read (file_bytes n l limit rule kinds cells) accepted (rw (nodes_back, slots_back, limit_back, rule_back, entries_back) refl)).answer;
          same_kinds = kind_back;
          same_cells = λ e c he z h. cell_back e he z c h;
          same_scenario = scenario_back;
        }

-- ---- what was written, cut to its length
pub round_trip : (n l limit rule : ℕ) (kinds cells out out' : List ℕ) (size : ℕ) → WriteResult n l limit rule kinds cells out out' (Bytes size) → ReadsBack n l limit rule kinds cells (take size out')
round_trip n l limit rule kinds cells out out' size w =
    let done = w.accepted refl in
    let cut : take size out' ≡ file_bytes n l limit rule kinds cells
    = ap₂ take done.size done.bytes ∙ written_first (file_length n kinds) (file_bytes n l limit rule kinds cells) out (length_file n l limit rule kinds cells) in
    rw cut (reads_back n l limit rule kinds cells (can_write n l limit rule kinds cells (length out) (sym w.answer)))
