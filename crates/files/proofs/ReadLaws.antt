-- What a file's checks mean in plain numbers, and what an accepted file has passed. Assumes nothing.
use Prim.Native.Nat.{ℕ, ◌+◌, ◌*◌, ◌≤◌, ◌<◌}
use native.Mathlib.Omega.{arith}
use mathlib.Core.Path.{◌≡◌, refl, sym, ◌∙◌, ap}
use mathlib.Core.Bool.{true, false, not}
use mathlib.Core.List.{List}
use Rattle.std.specs.Prelude.{Ok, Err}
use lib.Dec.{ltb, eqb}
use lib.ListN.{length}
use borrow.Author.Tests.{ltb-false, le-ltb, eq-eqb, ne_eqb, eqb-true, not-false}
use Rattle.sums.proofs.Cases.{by_eq}
use Rattle.sums.proofs.Searches.{first_before, first_none}
use Rattle.star.specs.declared.refusals.Refusal.{Refusal}
use Rattle.star.specs.declared.refusals.Refusal.TheVariants.{BadFile}
use Rattle.star.specs.Refusals.{Verdict, Accepted, Refused, notice_of, Ranges}
use Rattle.star.specs.Checks.{then}
use Rattle.star.proofs.RefusalLaws.{passes, in_numbers, passed, then_goes, then_passed, group_in_numbers, neither, neither_of, ranges_fit, ranged, ranges_in_numbers}
use Rattle.files.specs.declared.reading.Head.{Head}
use Rattle.files.specs.Format.{nodes_of, slots_of, limit_of, rule_of, entries_of, kind_of, place_of, table_end}
use Rattle.files.specs.Reading.{Reading, head_of, table_bad, entry_bad_of, entry_bad, first_bad, read_verdict, read_notice, reading_verdict, read_answer, ReadResult}

-- ---- the table
module _ (file : List ℕ) where
  -- a whole table
  pub record Whole : Type 0 where
    pub head : 20 ≤ length file
    pub few : entries_of file ≤ 4096
    pub all : table_end (entries_of file) ≤ length file

  pub table_whole : table_bad file ≡ false → Whole
  unfolding table_bad
  table_whole e =
      let a = neither_of _ _ e in
      let b = neither_of _ _ a.0 in
      record { head = ltb-false _ _ b.0; few = ltb-false _ _ b.1; all = ltb-false _ _ a.1 }

-- ---- an entry
module _ (n entries size kind at : ℕ) where
  pub frame_bad : kind ≡ 1 → entry_bad_of n entries size kind at ≡ not (eqb at 0)
  frame_bad e = rw e refl

  pub kind_bad : 1 < kind → entry_bad_of n entries size kind at ≡ true
  kind_bad h = simp (ne_eqb kind 0 (λ e. omega arith), ne_eqb kind 1 (λ e. omega arith))

  -- a post whose matrix lies wholly between the table and the file's end, or a frame
  pub record Good : Type 0 where
    pub known : kind ≤ 1
    pub low : kind ≡ 0 → table_end entries ≤ at
    pub high : kind ≡ 0 → at + 2 * (n * n) ≤ size
    pub frames : kind ≡ 1 → at ≡ 0

  pub entry_good : entry_bad_of n entries size kind at ≡ false → Good
  entry_good e =
      by_eq kind 0
      (λ k. let h = neither_of (ltb at (table_end entries)) (ltb size (at + 2 * (n * n))) (rw k at e) in
      record { known = omega arith; low = λ _. ltb-false _ _ h.0; high = λ _. ltb-false _ _ h.1; frames = λ o. absurd (omega arith) })
      (λ k. by_eq kind 1
      (λ o. record { known = omega arith; low = λ z. absurd (k z); high = λ z. absurd (k z); frames = λ _. eqb-true at 0 (not-false _ (sym (frame_bad o) ∙ e)) })
      (λ o. absurd (let z : true ≡ false = sym (kind_bad (omega arith)) ∙ e in let y : ◌≡◌ {A = ℕ} 0 1 = cc in omega arith)))

  pub good_entry : Good → entry_bad_of n entries size kind at ≡ false
  good_entry g =
      by_eq kind 0
      (λ k. rw k (neither (ltb at (table_end entries)) (ltb size (at + 2 * (n * n))) (le-ltb _ _ (g.low k)) (le-ltb _ _ (g.high k))))
      (λ k. let o : kind ≡ 1 = omega (arith, g.known) in frame_bad o ∙ ap not (eq-eqb at 0 (g.frames o)))

-- ---- an accepted file
pub record Sound (file : List ℕ) : Type 0 where
  pub table : Whole file
  pub ranges : Ranges (nodes_of file) (slots_of file) (rule_of file) (limit_of file)
  pub entries : (e : ℕ) → e < entries_of file → Good (nodes_of file) (entries_of file) (length file) (kind_of file e) (place_of file e)

pub accepted_sound : (file : List ℕ) → read_verdict file ≡ Accepted → Sound file
unfolding read_verdict first_bad entry_bad
accepted_sound file e =
    let a = then_passed _ _ e in
    let b = then_passed _ _ a.1 in
    let none = ltb-false (first_bad (nodes_of file) (entries_of file) file) (entries_of file) (passed _ _ _ b.1).0 in
    record {
      table = table_whole file (passed _ _ _ a.0).0;
      ranges = ranged _ _ _ _ b.0;
      entries = λ k h. entry_good _ _ _ _ _ (first_before (entry_bad (nodes_of file) (entries_of file) file) (entries_of file) k (omega (arith, none)));
    }

pub sound_accepted : (file : List ℕ) → Sound file → read_verdict file ≡ Accepted
unfolding read_verdict first_bad entry_bad table_bad
sound_accepted file s =
    let none : first_bad (nodes_of file) (entries_of file) file ≡ entries_of file
    = first_none (entry_bad (nodes_of file) (entries_of file) file) (entries_of file) (λ e h. good_entry _ _ _ _ _ (s.entries e h)) in
    sym
    (then_goes (passes (BadFile 0) (neither _ _ (neither _ _ (le-ltb _ _ s.table.head) (le-ltb _ _ s.table.few)) (le-ltb _ _ s.table.all)) refl) refl
    (then_goes (ranges_fit _ _ _ _ s.ranges) refl
    (passes _ (le-ltb (first_bad (nodes_of file) (entries_of file) file) (entries_of file) (omega (arith, none))) refl)))

-- ---- what is answered, by names and in numbers
read_notice_lem : (file : List ℕ) → notice_of (read_verdict file) ≡ read_notice file
unfolding read_verdict read_notice then
read_notice_lem file = group_in_numbers _ _ _ _ (ranges_in_numbers _ _ _ _ _ (in_numbers _ _ _ refl))

answer_verdict : (v : Verdict) (file : List ℕ) → reading_verdict (read_answer v file) ≡ v
unfolding read_answer
answer_verdict (Ok _) file = refl
answer_verdict (Err r) file = refl

read_result : (file : List ℕ) {r : Reading} → r ≡ read_answer (read_verdict file) file → ReadResult file r
read_result file e = record { answer = e; notice = ap notice_of (ap reading_verdict e ∙ answer_verdict (read_verdict file) file) ∙ read_notice_lem file }

pub head_read : (file : List ℕ) {h : Head} → read_verdict file ≡ Accepted → h ≡ head_of file → ReadResult file (Ok h)
unfolding read_answer
head_read file e is = read_result file (rw (e, is) refl)

pub refusal_read : (file : List ℕ) {r : Reading} {x : Refusal} → r ≡ Err x → read_verdict file ≡ Refused x → ReadResult file r
unfolding read_answer
refusal_read file is e = read_result file (is ∙ rw e refl)
