-- The theorems on played files. The books hold as they hold of every history. Under the fair rule what is held after a file is unique, by induction on
-- the two histories: a fresh start clears every cell, a post changes each by the same arrivals, and a frame under the fair rule sends the same; each by
-- the theorem on that call. What was posted is told by the entries alone. Assumes nothing.
use Prim.Native.Nat.{ℕ, ◌*◌, ◌/◌, ◌%◌, ◌≤◌, ◌<◌}
use native.Mathlib.Omega.{arith}
use mathlib.Core.Path.{◌≡◌, refl, sym, ◌∙◌, ap, subst}
use mathlib.Core.List.{List, [], ◌∷◌, ◌++◌}
use lib.ListN.{length, get_or, take, length-append}
use lib.Seq.{take_at, get_or_at}
use Rattle.sums.specs.Tables.{cell}
use Rattle.sums.proofs.Tables.{place_split, at_place}
use Rattle.star.specs.Refusals.{Verdict, Accepted, verdict_of}
use Rattle.star.proofs.RefusalLaws.{never}
use Rattle.planner.specs.Plans.{Answer}
use Rattle.planner.specs.Lent.{Lent, LentRoom}
use Rattle.calls.specs.Held.{Held, HeldAlike}
use Rattle.calls.specs.Runs.{Freshened, Posted, Framed}
use Rattle.calls.proofs.Verdicts.{fresh_accepted, post_accepted, frame_accepted}
use Rattle.run.specs.Histories.{Event, posting, framing, restarting, History, started, continued, whether, arrived}
use Rattle.run.proofs.CallLaws.{fresh_theorems, post_theorems}
use Rattle.run.proofs.FrameLaws.{frame_theorems}
use Rattle.run.proofs.HistoryLaws.{books_hold}
use Rattle.files.specs.Format.{nodes_of, post, frame}
use Rattle.play.specs.Plays.{told, AllAccepted, more, Played}
use Rattle.play.specs.Theorems.{PlayTheorems}

-- ---- the last of two lists
module _ {A : Type 0} where
  snoc_lengths : (xs ys : List A) (x y : A) → xs ++ (x ∷ []) ≡ ys ++ (y ∷ []) → length xs ≡ length ys
  snoc_lengths xs ys x y e = omega (arith, ap length e, length-append xs (x ∷ []), length-append ys (y ∷ []))

  snoc_front : (xs ys : List A) (x y : A) → xs ++ (x ∷ []) ≡ ys ++ (y ∷ []) → xs ≡ ys
  snoc_front xs ys x y e = sym (take_at xs (x ∷ []) (length ys) (snoc_lengths xs ys x y e)) ∙ ap (take (length ys)) e ∙ take_at ys (y ∷ []) (length ys) refl

  snoc_last : (xs ys : List A) (x y : A) → xs ++ (x ∷ []) ≡ ys ++ (y ∷ []) → x ≡ y
  snoc_last xs ys x y e = sym (get_or_at xs x [] x (length ys) (snoc_lengths xs ys x y e)) ∙ ap (λ l. get_or l (length ys) x) e ∙ get_or_at ys y [] x (length ys) refl

-- ---- two histories
told_length : (e : Event) (es : List Event) → AllAccepted (e ∷ es) → 1 ≤ length (told (e ∷ es))
unfolding told
told_length (posting a v) es x = omega (arith, length-append (told es) (post a ∷ []))
told_length (framing lent plan r) es x = omega (arith, length-append (told es) (frame ∷ []))
told_length (restarting n l limit rule x) es (more _ _ e _) = absurd (never e)

same_entry : {x y : List ℕ} → post x ≡ post y → x ≡ y
same_entry e = cc

post_no_frame : {x : List ℕ} → post x ≡ frame → ⊥
post_no_frame e = let z : ◌≡◌ {A = ℕ} 0 1 = cc in omega arith

module _ {n l limit rule : ℕ} (fair : rule ≡ 0) where
  -- an accepted fresh start was lent tables that are long enough
  same_start : {h h' g g' : Held} → Freshened n l limit rule h h' Accepted → Freshened n l limit rule g g' Accepted → HeldAlike n h' g'
  same_start {h} {h'} {g} {g'} a b =
      (fresh_theorems.needed n l limit rule h h' g g' Accepted Accepted a b (fresh_accepted n l limit rule h (sym a.answer)).1 (fresh_accepted n l limit rule g (sym b.answer)).1).1 refl

  module _ {es : List Event} {h g : Held} (past : History n l limit rule es h) (s : HeldAlike n h g) where
    here : h.run.nodes ≡ n
    here = ap (λ r. r.nodes) (books_hold past).run

    alike : HeldAlike h.run.nodes h g
    alike = subst (λ m. HeldAlike m h g) (sym here) s

    same_post : {h' g' : Held} (a : List ℕ) {v u : Verdict} → Posted a h h' v → Posted a g g' u → v ≡ Accepted → HeldAlike n h' g'
    same_post {h'} {g'} a {v} {u} x y ok =
        let cells = (post_accepted a h (sym x.answer ∙ ok)).given.cells in
        subst (λ m. HeldAlike m h' g') here (post_theorems.needed a a h h' g g' v u x y (record { first_room = cells; second_room = cells; cells = refl }) alike).1

    same_frame : {h' g' : Held} {lent plan given made : Lent} (r t : Answer) → Framed lent plan h h' r → Framed given made g g' t → verdict_of r ≡ Accepted → verdict_of t ≡ Accepted → HeldAlike n h' g'
    same_frame {h'} {g'} {lent} {plan} {given} {made} r t x y ok ko =
        let one = (frame_accepted h lent (sym x.answer ∙ ok)).tables in
        let other = subst (λ run. LentRoom run.nodes run.slots given) (sym s.run) (frame_accepted g given (sym y.answer ∙ ko)).tables in
        subst (λ m. HeldAlike m h' g') here ((frame_theorems.needed lent plan given made h h' g g' r t x y alike one other).fair_held ok (ap (λ r. r.rule) (books_hold past).run ∙ fair))

  pub same_held : (es fs : List Event) (h k : Held) → History n l limit rule es h → History n l limit rule fs k → told es ≡ told fs → AllAccepted es → AllAccepted fs → HeldAlike n h k
  unfolding told
  same_held [] [] h k (started _ _ a) (started _ _ b) e x y = same_start a b
  same_held [] (f ∷ fs) h k p q e x y = let long = told_length f fs y in absurd (omega (arith, ap length e, long))
  same_held (f ∷ es) [] h k p q e x y = let long = told_length f es x in absurd (omega (arith, ap length e, long))
  same_held (restarting n' l' limit' rule' x' ∷ es) (f ∷ fs) h k p q e (more _ _ x xs) y = absurd (never x)
  same_held (posting a v ∷ es) (restarting n' l' limit' rule' x' ∷ fs) h k p q e x (more _ _ y ys) = absurd (never y)
  same_held (framing lent plan r ∷ es) (restarting n' l' limit' rule' x' ∷ fs) h k p q e x (more _ _ y ys) = absurd (never y)
  same_held (posting a v ∷ es) (posting b u ∷ fs) h k (continued _ _ h₀ _ p c) (continued _ _ k₀ _ q d) e (more _ _ x xs) (more _ _ y ys) =
      same_post p (same_held es fs h₀ k₀ p q (snoc_front (told es) (told fs) (post a) (post b) e) xs ys) a c (subst (λ t. Posted t k₀ k u) (sym (same_entry (snoc_last (told es) (told fs) (post a) (post b) e))) d) x
  same_held (framing lent plan r ∷ es) (framing given made t ∷ fs) h k (continued _ _ h₀ _ p c) (continued _ _ k₀ _ q d) e (more _ _ x xs) (more _ _ y ys) =
      same_frame p (same_held es fs h₀ k₀ p q (snoc_front (told es) (told fs) frame frame e) xs ys) r t c d x y
  same_held (posting a v ∷ es) (framing given made t ∷ fs) h k p q e x y = absurd (post_no_frame {x = a} (snoc_last (told es) (told fs) (post a) frame e))
  same_held (framing lent plan r ∷ es) (posting b u ∷ fs) h k p q e x y = absurd (post_no_frame {x = b} (sym (snoc_last (told es) (told fs) frame (post b) e)))

-- ---- what was posted is told by the entries alone
whether_accepted : {v : Verdict} (x y : ℕ) → v ≡ Accepted → whether v x y ≡ x
whether_accepted x y e = rw e refl

same_arrived : (n : ℕ) (es fs : List Event) (i j : ℕ) → told es ≡ told fs → AllAccepted es → AllAccepted fs → arrived n es i j ≡ arrived n fs i j
unfolding told arrived
same_arrived n [] [] i j e x y = refl
same_arrived n [] (f ∷ fs) i j e x y = let long = told_length f fs y in absurd (omega (arith, ap length e, long))
same_arrived n (f ∷ es) [] i j e x y = let long = told_length f es x in absurd (omega (arith, ap length e, long))
same_arrived n (restarting n' l' limit' rule' x' ∷ es) (f ∷ fs) i j e (more _ _ x xs) y = absurd (never x)
same_arrived n (posting a v ∷ es) (restarting n' l' limit' rule' x' ∷ fs) i j e x (more _ _ y ys) = absurd (never y)
same_arrived n (framing lent plan r ∷ es) (restarting n' l' limit' rule' x' ∷ fs) i j e x (more _ _ y ys) = absurd (never y)
same_arrived n (posting a v ∷ es) (posting b u ∷ fs) i j e (more _ _ x xs) (more _ _ y ys) =
    omega (
      arith,
      same_arrived n es fs i j (snoc_front (told es) (told fs) (post a) (post b) e) xs ys,
      whether_accepted (cell n a i j) 0 x,
      whether_accepted (cell n b i j) 0 y,
      ap (λ t. cell n t i j) (same_entry (snoc_last (told es) (told fs) (post a) (post b) e)),
    )
same_arrived n (framing lent plan r ∷ es) (framing given made t ∷ fs) i j e (more _ _ x xs) (more _ _ y ys) = same_arrived n es fs i j (snoc_front (told es) (told fs) frame frame e) xs ys
same_arrived n (posting a v ∷ es) (framing given made t ∷ fs) i j e x y = absurd (post_no_frame {x = a} (snoc_last (told es) (told fs) (post a) frame e))
same_arrived n (framing lent plan r ∷ es) (posting b u ∷ fs) i j e x y = absurd (post_no_frame {x = b} (sym (snoc_last (told es) (told fs) frame (post b) e)))

same_posted : (file : List ℕ) (count : ℕ) (h k : Held) → Played file count h → Played file count k → (c : ℕ) → c < nodes_of file * nodes_of file → get_or h.posted c 0 ≡ get_or k.posted c 0
same_posted file count h k p q c lt =
    let n = nodes_of file in
    let s = place_split n c lt in
    at_place n h.posted c lt
    ∙ (books_hold p.history).posted (c / n) (c % n) s.0 s.1.0
    ∙ same_arrived n p.events q.events (c / n) (c % n) (p.entries ∙ sym q.entries) p.accepted q.accepted
    ∙ sym ((books_hold q.history).posted (c / n) (c % n) s.0 s.1.0)
    ∙ sym (at_place n k.posted c lt)

pub play_theorems : PlayTheorems
play_theorems = record {
  books = λ file count h p. books_hold p.history;
  unique = λ file count h k fair p q.
      same_held fair p.events q.events h k p.history q.history (p.entries ∙ sym q.entries) p.accepted q.accepted;
  posted = same_posted;
}
