-- The theorems on fresh and post. The verdict is a function of what was given, and what is held then is one of the verdict and of what was held; each
-- reads only the cells needed. Assumes nothing.
use Rattle.std.specs.Prelude.{Ok, Err}
use Prim.Native.Nat.{ℕ, ◌*◌}
use native.Mathlib.Omega.{arith}
use mathlib.Core.Path.{◌≡◌, refl, sym, ◌∙◌, ap, subst}
use mathlib.Core.List.{List}
use Rattle.star.specs.Refusals.{Verdict, Accepted}
use Rattle.star.specs.Tables.{Alike}
use Rattle.star.proofs.RefusalLaws.{promise_same}
use Rattle.books.proofs.QueueLaws.{zeroed_length, increased_length, overflowed_length, queued_length, zeroed_alike, increased_alike, queued_alike, overflowed_alike}
use Rattle.calls.specs.Held.{Held, LongEnough, HeldAlike, post_run}
use Rattle.calls.specs.Checks.{fresh_verdict}
use Rattle.calls.specs.Runs.{Freshened, Posted}
use Rattle.calls.proofs.Verdicts.{Balanced, fresh_accepts, fresh_accepted, held_fits, post_accepts, post_accepted, alike_post}
use Rattle.run.specs.Theorems.{Callable, SameLengths, FreshTheorems, PostTheorems}

-- ---- what is held, before and after
-- what is not touched keeps its lengths, and stays alike
pub lengths_same : {h h' : Held} → h' ≡ h → SameLengths h h'
lengths_same {h} e = subst (λ x. SameLengths h x) (sym e) (record { waiting = refl; posted = refl; sent = refl; dropped = refl })

pub alike_same : {n : ℕ} {h h' g g' : Held} → h' ≡ h → g' ≡ g → HeldAlike n h g → HeldAlike n h' g'
alike_same {n} {h' = h'} {g = g} e f a = subst (λ x. HeldAlike n h' x) (sym f) (subst (λ x. HeldAlike n x g) (sym e) a)

-- what keeps its lengths is still long enough
pub still_long : {n : ℕ} {h h' : Held} → LongEnough n h → SameLengths h h' → LongEnough n h'
still_long room same = record {
  waiting = omega (arith, room.waiting, same.waiting);
  posted = omega (arith, room.posted, same.posted);
  sent = omega (arith, room.sent, same.sent);
  dropped = omega (arith, room.dropped, same.dropped);
}

-- ---- fresh
module _ {n l limit rule : ℕ} {h h' : Held} where
  pub fresh_lengths : (v : Verdict) → Freshened n l limit rule h h' v → SameLengths h h'
  fresh_lengths (Err x) c = lengths_same (c.refused x refl)
  fresh_lengths (Ok _) c =
      let room = (fresh_accepted n l limit rule h (sym c.answer)).1 in
      subst (λ x. SameLengths h x) (sym (c.accepted refl)) (record {
        waiting = zeroed_length n h.waiting room.waiting;
        posted = zeroed_length n h.posted room.posted;
        sent = zeroed_length n h.sent room.sent;
        dropped = zeroed_length n h.dropped room.dropped;
      })

module _ {n l limit rule : ℕ} {h h' g g' : Held} where
  fresh_verdict_lem : {v₁ v₂ : Verdict} → Freshened n l limit rule h h' v₁ → Freshened n l limit rule g g' v₂ → LongEnough n h → LongEnough n g → v₁ ≡ v₂
  unfolding fresh_verdict
  fresh_verdict_lem c d a b = c.answer ∙ rw (sym (held_fits a) ∙ held_fits b) refl ∙ sym d.answer

  fresh_alike : Freshened n l limit rule h h' Accepted → Freshened n l limit rule g g' Accepted → HeldAlike n h' g'
  fresh_alike c d = alike_same (c.accepted refl) (d.accepted refl) (record {
    run = refl;
    waiting = zeroed_alike n h.waiting g.waiting;
    posted = zeroed_alike n h.posted g.posted;
    sent = zeroed_alike n h.sent g.sent;
    dropped = zeroed_alike n h.dropped g.dropped;
  })

pub fresh_theorems : FreshTheorems
fresh_theorems = record {
  accepts = λ n l limit rule h h' v c r room. c.answer ∙ sym (fresh_accepts r room);
  unique = λ n l limit rule h h₁ h₂ v₁ v₂ c d. promise_same v₁ c d;
  needed = λ n l limit rule h h' g g' v₁ v₂ c d a b.
      let e : v₁ ≡ v₂ = fresh_verdict_lem c d a b in
      (e, λ ok. fresh_alike (subst (Freshened n l limit rule h h') ok c) (subst (Freshened n l limit rule g g') (sym e ∙ ok) d));
  lengths = λ n l limit rule h h' v c. fresh_lengths v c;
}

-- ---- post
pub post_lengths : (arrivals : List ℕ) {h h' : Held} (v : Verdict) → Posted arrivals h h' v → SameLengths h h'
post_lengths arrivals (Err x) c = lengths_same (c.refused x refl)
post_lengths arrivals {h} (Ok _) c =
    let room = (post_accepted arrivals h (sym c.answer)).long_enough in
    let n = h.run.nodes in
    subst (λ x. SameLengths h x) (sym (c.accepted refl)) (record {
      waiting = queued_length n h.run.limit arrivals h.waiting room.waiting;
      posted = increased_length n arrivals h.posted room.posted;
      sent = refl;
      dropped = overflowed_length n h.run.limit arrivals h.waiting h.dropped room.dropped;
    })

module _ (a b : List ℕ) (h h' g g' : Held) (given : Alike (h.run.nodes * h.run.nodes) a b) (same : HeldAlike h.run.nodes h g) where
  post_alike : (v : Verdict) → Posted a h h' v → Posted b g g' v → HeldAlike h.run.nodes h' g'
  post_alike (Err x) c d = alike_same (c.refused x refl) (d.refused x refl) same
  post_alike (Ok _) c d =
      let n = h.run.nodes in
      alike_same (c.accepted refl) (d.accepted refl) (record {
        run = ap post_run same.run;
        waiting = rw (sym same.run) (queued_alike n given same.waiting h.run.limit);
        posted = rw (sym same.run) (increased_alike n given same.posted);
        sent = same.sent;
        dropped = rw (sym same.run) (overflowed_alike n given same.waiting h.run.limit same.dropped);
      })

-- what is held as a call asks has books that balance
pub callable_balanced : {h : Held} → Callable h → Balanced h
callable_balanced r = record {
  books = λ p lt. record { short_enough = r.books_in_order.queued p lt; balance = r.books_in_order.balanced p lt; possible = r.books_in_order.possible p lt };
}

pub post_theorems : PostTheorems
post_theorems = record {
  accepts = λ arrivals h h' v c r cells most few.
      c.answer
      ∙ sym (post_accepts (record {
        ranges = r.ranges;
        given = record { nodes = r.ranges.sizes.nodes; cells = cells };
        long_enough = r.long_enough;
        balanced = callable_balanced r;
        few = few;
        within = record { most = most };
      }));
  unique = λ arrivals h h₁ h₂ v₁ v₂ c d. promise_same v₁ c d;
  needed = λ a b h h' g g' v₁ v₂ c d given same.
      let e : v₁ ≡ v₂ = c.answer ∙ alike_post same given ∙ sym d.answer in
      (e, post_alike a b h h' g g' given same v₁ c (subst (Posted b g g') (sym e) d));
  lengths = λ arrivals h h' v c. post_lengths arrivals v c;
}
