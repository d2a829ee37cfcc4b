-- The theorems on the matrix program's text. A text is made of an outcome, which is one for each input, and of the kept cells of a plan: under the
-- fair rule these are one matrix, under the least rule they have one total, since greatest matrices have. Assumes nothing.
use Prim.Native.Nat.{ℕ, ◌+◌, ◌-◌, ◌*◌, ◌≤◌, ◌<◌}
use native.Mathlib.Omega.{arith}
use mathlib.Core.Path.{◌≡◌, refl, sym, ◌∙◌, ap, ap₂}
use mathlib.Core.Bool.{Bool, true, false}
use mathlib.Core.List.{List, [], ◌∷◌, ◌++◌}
use mathlib.Core.Option.{Option, none, some}
use lib.Dec.{ltb, eqb}
use lib.ListN.{length, drop}
use lib.Seq.{drop-drop, drop-append-add}
use borrow.Author.Tests.{ltb-false, le-ltb, eqb-true, eq-eqb}
use Rattle.sums.specs.Tables.{cell, written}
use Rattle.sums.proofs.Tables.{first_cells}
use Rattle.star.specs.declared.refusals.Refusal.{Refusal}
use Rattle.star.specs.declared.refusals.Refusal.TheVariants.{Nodes, Slots, Rule, DemandAbove}
use Rattle.star.specs.Refusals.{first_above}
use Rattle.star.specs.Lines.{total}
use Rattle.star.proofs.LineLaws.{total_ext}
use Rattle.star.proofs.RefusalLaws.{inside, within_range, none_above}
use Rattle.pieces.specs.Pieces.{Answered}
use Rattle.pieces.specs.Text.{marked}
use Rattle.pieces.proofs.PieceLaws.{join_ext, answered_same}
use Rattle.planner.proofs.NeededLaws.{least_total}
use Rattle.number_list.specs.Input.{list_of}
use Rattle.matrix_text.specs.Text.{head_text, totals_text, mark_after, cell_text, row_text, rows_text, plan_text}
use Rattle.matrix_text.specs.Outcomes.{Outcome, BadInput, Refuses, Plans, or_else, judge, judge_list, outcome, outcome_text, Prints}
use Rattle.matrix_text.specs.Theorems.{Same, LeastText, TextsAgree, InOrder, TextTheorems}
use Rattle.matrix_text.proofs.OutcomeLaws.{left, sizes}

-- ---- kept matrices with the same cells print the same text
module _ (n : ℕ) (k₁ k₂ : List ℕ) (same : (i j : ℕ) → i < n → j < n → cell n k₁ i j ≡ cell n k₂ i j) where
  rows_ext : rows_text n k₁ ≡ rows_text n k₂
  unfolding rows_text row_text cell_text
  rows_ext = join_ext n _ _ (λ i hi. join_ext n _ _ (λ j hj. ap (λ x. marked x (mark_after n j)) (same i j hi hj)))

  text_ext : (l rule : ℕ) (d : List ℕ) → outcome_text (Plans n l rule d) k₁ ≡ outcome_text (Plans n l rule d) k₂
  unfolding outcome_text plan_text
  text_ext l rule d = rw (total_ext n k₁ k₂ same, rows_ext) refl

-- ---- texts of one outcome
text_of : {o o' : Outcome} {t : List ℕ} → o ≡ o' → (p : Prints o t) → t ≡ outcome_text o' p.plan.kept
text_of e p = p.printed ∙ ap (λ x. outcome_text x p.plan.kept) e

bad_text : {o : Outcome} {t₁ t₂ : List ℕ} → o ≡ BadInput → Prints o t₁ → Prints o t₂ → t₁ ≡ t₂
unfolding outcome_text
bad_text e a b = text_of e a ∙ sym (text_of e b)

refusal_text_lem : {o : Outcome} {t₁ t₂ : List ℕ} (x : Refusal) → o ≡ Refuses x → Prints o t₁ → Prints o t₂ → t₁ ≡ t₂
unfolding outcome_text
refusal_text_lem x e a b = text_of e a ∙ sym (text_of e b)

fair_text : {o : Outcome} {t₁ t₂ : List ℕ} (n l : ℕ) (d : List ℕ) → o ≡ Plans n l 0 d → Prints o t₁ → Prints o t₂ → t₁ ≡ t₂
fair_text n l d e a b =
    let one-matrix = ((a.planned n l 0 d e).fair refl).0 ∙ sym ((b.planned n l 0 d e).fair refl).0 in
    text_of e a ∙ text_ext n a.plan.kept b.plan.kept (first_cells n a.plan.kept b.plan.kept one-matrix) l 0 d ∙ sym (text_of e b)

-- where k is the kept total
least_text : {o : Outcome} {t : List ℕ} (n l : ℕ) (d : List ℕ) (k : ℕ) → o ≡ Plans n l 1 d → (p : Prints o t) → total n p.plan.kept ≡ k → LeastText n l d k (total n d - k) t
unfolding outcome_text plan_text
least_text n l d k e p is = record {
  plan = p.plan;
  planned = p.planned n l 1 d e;
  lines = text_of e p ∙ ap (λ x. head_text n l 1 ++ totals_text x (total n d - x) ++ rows_text n p.plan.kept) is;
}

-- ---- two answers
-- past its text the lent bytes are as before
past : {promised : List ℕ → Type 0} {out out' : List ℕ} {r : ℕ} (a : Answered promised out out' r) (m : ℕ) → r ≤ m → drop m out' ≡ drop m out
unfolding written
past {out = out} a m h =
    let size = length a.text in
    let e : size + (m - size) ≡ m = omega (arith, a.end) in
    ap₂ drop (sym e) a.bytes ∙ drop-append-add a.text (drop size out) (m - size) ∙ drop-drop (m - size) size out ∙ ap (λ k. drop k out) e

module _ (input out out₁ out₂ : List ℕ) (r₁ r₂ : ℕ) (a : Answered (Prints (outcome input)) out out₁ r₁) (b : Answered (Prints (outcome input)) out out₂ r₂) where
  same : a.text ≡ b.text → Same a.text out₁ r₁ b.text out₂ r₂
  same e = let one = answered_same a b e in record { texts = e; bytes = one.0; ends = one.1 }

  text_unique : TextsAgree (outcome input) a.text out₁ r₁ b.text out₂ r₂
  text_unique = record {
    bad = λ e. same (bad_text e a.prints b.prints);
    refused = λ x e. same (refusal_text_lem x e a.prints b.prints);
    fair = λ n l d e. same (fair_text n l d e a.prints b.prints);
    least = λ n l d e.
        let k = total n a.prints.plan.kept in
        record {
          keeps = k;
          refuses = total n d - k;
          one = least_text n l d k e a.prints refl;
          other = least_text n l d k e b.prints (least_total (λ i j hi hj. refl) (b.prints.planned n l 1 d e) (a.prints.planned n l 1 d e));
          rest = λ m h g. past a m h ∙ sym (past b m g);
        };
  }

-- ---- an input in order is planned
text_planned : (input : List ℕ) (n l rule : ℕ) (d : List ℕ) → InOrder input n l rule d → outcome input ≡ Plans n l rule d
unfolding outcome judge_list judge first_above
text_planned input n l rule d h =
    left BadInput (le-ltb 65536 (length input) h.short)
    (ap judge_list h.listed
    ∙ left (Refuses Nodes) (inside 1 64 n h.sizes.some_nodes h.sizes.nodes)
    (left (Refuses Slots) (inside 1 1024 l h.sizes.some_slots h.sizes.slots)
    (left (Refuses Rule) (le-ltb 1 rule h.known_rule)
    (rw (eq-eqb (length d) (n * n) h.count) (left (Refuses (DemandAbove (first_above n d))) (none_above n d h.demands) refl)))))

-- ---- and no other
module _ (n l rule : ℕ) (d : List ℕ) where
  never_bad : BadInput ≡ Plans n l rule d → ⊥
  never_bad e = let z : ◌≡◌ {A = ℕ} 0 1 = cc in omega arith

  never_refused : (x : Refusal) → Refuses x ≡ Plans n l rule d → ⊥
  never_refused x e = let z : ◌≡◌ {A = ℕ} 0 1 = cc in omega arith

  -- where the later tests plan, the test before them has not held
  passed : (b : Bool) (x later : Outcome) → (x ≡ Plans n l rule d → ⊥) → or_else b x later ≡ Plans n l rule d → (b ≡ false) × (later ≡ Plans n l rule d)
  passed true x later never e = absurd (never e)
  passed false x later never e = (refl, e)

  counted : (b : Bool) (later : Outcome) → elim b [ false ↦ BadInput | true ↦ later ] ≡ Plans n l rule d → (b ≡ true) × (later ≡ Plans n l rule d)
  counted true later e = (refl, e)
  counted false later e = absurd (never_bad e)

  judged_only : (input : List ℕ) (o : Option (List ℕ)) → length input ≤ 65536 → list_of input ≡ o → judge_list o ≡ Plans n l rule d → InOrder input n l rule d
  unfolding judge_list judge
  judged_only input none h s e = absurd (never_bad e)
  judged_only input (some []) h s e = absurd (never_bad e)
  judged_only input (some (m ∷ [])) h s e = absurd (never_bad e)
  judged_only input (some (m ∷ k ∷ [])) h s e = absurd (never_bad e)
  judged_only input (some (m ∷ k ∷ x ∷ c)) h s e =
      let e1 = passed _ _ _ (never_refused Nodes) e in
      let e2 = passed _ _ _ (never_refused Slots) e1.1 in
      let e3 = passed _ _ _ (never_refused Rule) e2.1 in
      let e4 = counted (eqb (length c) (m * m)) _ e3.1 in
      let e6 = passed _ _ _ (never_refused (DemandAbove (first_above m c))) e4.1 in
      let last : Plans m k x c ≡ Plans n l rule d = e6.1 in
      let en : m ≡ n = cc in
      let el : k ≡ l = cc in
      let er : x ≡ rule = cc in
      let ed : c ≡ d = cc in
      record {
        short = h;
        listed = s ∙ rw (en, el, er, ed) refl;
        sizes = rw (← en, ← el) (sizes m k e1.0 e2.0);
        known_rule = rw (← er) (ltb-false 1 x e3.0);
        count = rw (← en, ← ed) (eqb-true (length c) (m * m) e4.0);
        demands = rw (← en, ← ed) (within_range m c (ltb-false (first_above m c) (m * m) e6.0)).most;
      }

  text_only : (input : List ℕ) → outcome input ≡ Plans n l rule d → InOrder input n l rule d
  unfolding outcome
  text_only input e =
      let p = passed (ltb 65536 (length input)) BadInput (judge_list (list_of input)) never_bad e in
      judged_only input (list_of input) (ltb-false 65536 (length input) p.0) refl p.1

-- all of it
pub text_theorems : TextTheorems
text_theorems = record { unique = text_unique; planned = text_planned; only = λ input n l rule d. text_only n l rule d input }
