-- The checks of a run read backwards, what an accepted call has passed; and forwards, what is in order is accepted, and what agrees in the cells needed
-- is answered alike. And the checks in numbers. Assumes nothing.
use Prim.Native.Nat.{ℕ, ◌*◌, ◌≤◌, ◌<◌}
use native.Mathlib.Nat.{le_of_eq}
use mathlib.Core.Path.{◌≡◌, refl, sym, ◌∙◌}
use mathlib.Core.List.{List}
use lib.ListN.{length, get_or}
use borrow.Author.Tests.{ltb-false, leb-false, le-ltb, lt-leb}
use Rattle.sums.proofs.Searches.{first_ext}
use Rattle.star.specs.Refusals.{Accepted, notice_of, Ranges}
use Rattle.star.specs.Checks.{demand_short_verdict, demand_above_verdict}
use Rattle.star.specs.Tables.{Demands, Alike}
use Rattle.star.specs.Rooms.{Square}
use Rattle.star.proofs.RefusalLaws.{passes, in_numbers, passed, then_goes, then_passed, group_in_numbers, group_ends, ranges_in_numbers, either, neither, neither_of, ranges_fit, ranged, demand_fits, long_demand, demand_within, within}
use Rattle.star.proofs.AlikeLaws.{alike_at, alike_above, both_long}
use Rattle.planner.specs.Lent.{Lent, LentRoom}
use Rattle.planner.specs.Checks.{lent_short_verdict}
use Rattle.planner.proofs.PlanLaws.{lent_fits, long_lent}
use Rattle.books.specs.Books.{books_agree, first_disagreeing}
use Rattle.books.specs.Rooms.{Tables}
use Rattle.books.proofs.Agreements.{Agree, agreeing, none_disagreeing}
use Rattle.calls.specs.Held.{Held, held, fresh_run, LongEnough, HeldAlike, disagreeing}
use Rattle.calls.specs.Checks.{held_short_verdict, agreement_verdict, count_verdict, fresh_verdict, post_verdict, frame_verdict}
use Rattle.calls.specs.Runs.{fresh_notice, post_notice, frame_notice}

-- ---- 5
pub held_fits : {n : ℕ} {h : Held} → LongEnough n h → Accepted ≡ held_short_verdict n (length h.waiting) (length h.posted) (length h.sent) (length h.dropped)
unfolding held_short_verdict
held_fits room = passes _ (neither _ _ (neither _ _ (neither _ _ (le-ltb _ _ room.waiting) (le-ltb _ _ room.posted)) (le-ltb _ _ room.sent)) (le-ltb _ _ room.dropped)) refl

pub long_held : (n : ℕ) (h : Held) → held_short_verdict n (length h.waiting) (length h.posted) (length h.sent) (length h.dropped) ≡ Accepted → LongEnough n h
unfolding held_short_verdict
long_held n h e =
    let a = neither_of _ _ (passed _ _ _ e).0 in
    let b = neither_of _ _ a.0 in
    let c = neither_of _ _ b.0 in
    record { waiting = ltb-false _ _ c.0; posted = ltb-false _ _ c.1; sent = ltb-false _ _ b.1; dropped = ltb-false _ _ a.1 }

-- what the work on the tables asks of them
pub held_tables : {n : ℕ} {h : Held} → n ≤ 64 → LongEnough n h → Tables n h.waiting h.posted h.sent h.dropped
held_tables few room = record {
  queues = record { nodes = few; cells = room.waiting };
  postings = record { nodes = few; cells = room.posted };
  sendings = record { nodes = few; cells = room.sent };
  drops = record { nodes = few; cells = room.dropped };
}

pub long_tables : (n : ℕ) (waiting posted sent dropped : List ℕ) → n ≤ 64 → held_short_verdict n (length waiting) (length posted) (length sent) (length dropped) ≡ Accepted → Tables n waiting posted sent dropped
long_tables n waiting posted sent dropped few e = held_tables few (long_held n (held (fresh_run n 0 0 0) waiting posted sent dropped) e)

-- ---- 8
-- the books of each pair agree
pub record Balanced (h : Held) : Type 0 where
  pub books : (p : ℕ) → p < h.run.nodes * h.run.nodes → Agree h.run.limit h.run.posts (get_or h.waiting p 0) (get_or h.posted p 0) (get_or h.sent p 0) (get_or h.dropped p 0)

pub none_disagree : {h : Held} → Balanced h → disagreeing h ≡ h.run.nodes * h.run.nodes
none_disagree {h} b = none_disagreeing h.run.nodes h.run.limit h.run.posts h.waiting h.posted h.sent h.dropped b.books

pub agreement_fits : {h : Held} → Balanced h → Accepted ≡ agreement_verdict h
unfolding agreement_verdict
agreement_fits b = passes _ (le-ltb _ _ (le_of_eq (sym (none_disagree b)))) refl

pub balanced : (h : Held) → agreement_verdict h ≡ Accepted → Balanced h
unfolding agreement_verdict
balanced h e = record { books = agreeing h.run.nodes h.run.limit h.run.posts h.waiting h.posted h.sent h.dropped (ltb-false _ _ (passed _ _ _ e).0) }

-- ---- 9
pub count_fits : {count : ℕ} → count < 1000000 → Accepted ≡ count_verdict count
unfolding count_verdict
count_fits {count} few = passes _ (lt-leb 1000000 count few) refl

pub counted : (count : ℕ) → count_verdict count ≡ Accepted → count < 1000000
unfolding count_verdict
counted count e = leb-false 1000000 count (passed _ _ _ e).0

-- ---- what agrees in the cells needed
module _ {h g : Held} (same : HeldAlike h.run.nodes h g) where
  alike_disagreeing : disagreeing h ≡ disagreeing g
  unfolding first_disagreeing books_agree
  alike_disagreeing =
      rw (sym same.run)
      (first_ext (h.run.nodes * h.run.nodes) _ _ (λ q lt.
      rw (alike_at same.waiting q lt, alike_at same.posted q lt, alike_at same.sent q lt, alike_at same.dropped q lt) refl))

  alike_agreement : agreement_verdict h ≡ agreement_verdict g
  unfolding agreement_verdict
  alike_agreement = rw (alike_disagreeing, same.run) refl

  alike_held_short :
      held_short_verdict h.run.nodes (length h.waiting) (length h.posted) (length h.sent) (length h.dropped) ≡
      held_short_verdict h.run.nodes (length g.waiting) (length g.posted) (length g.sent) (length g.dropped)
  unfolding held_short_verdict
  alike_held_short =
      rw (
        both_long same.waiting.first_room same.waiting.second_room,
        both_long same.posted.first_room same.posted.second_room,
        both_long same.sent.first_room same.sent.second_room,
        both_long same.dropped.first_room same.dropped.second_room,
      )
      refl

  pub alike_post : {a b : List ℕ} → Alike (h.run.nodes * h.run.nodes) a b → post_verdict a h ≡ post_verdict b g
  unfolding post_verdict demand_short_verdict demand_above_verdict
  alike_post given = rw (both_long given.first_room given.second_room, alike_held_short, alike_agreement, alike_above h.run.nodes given, same.run) refl

  pub alike_frame : {k x : Lent} → LentRoom h.run.nodes h.run.slots k → LentRoom h.run.nodes h.run.slots x →
      frame_verdict h (length k.kept) (length k.withdrawn) (length k.schedule) ≡ frame_verdict g (length x.kept) (length x.withdrawn) (length x.schedule)
  unfolding frame_verdict
  alike_frame one other = rw (sym (lent_fits one) ∙ lent_fits other, alike_held_short, alike_agreement, same.run) refl

-- ---- fresh
pub fresh_accepts : {n l limit rule : ℕ} {h : Held} → Ranges n l rule limit → LongEnough n h →
    Accepted ≡ fresh_verdict n l limit rule (length h.waiting) (length h.posted) (length h.sent) (length h.dropped)
unfolding fresh_verdict
fresh_accepts {n} {l} {limit} {rule} r room = then_goes (ranges_fit n l rule limit r) refl (held_fits room)

pub fresh_accepted : (n l limit rule : ℕ) (h : Held) → fresh_verdict n l limit rule (length h.waiting) (length h.posted) (length h.sent) (length h.dropped) ≡ Accepted →
    (Ranges n l rule limit) × (LongEnough n h)
unfolding fresh_verdict
fresh_accepted n l limit rule h e =
    let a = then_passed _ _ e in
    (ranged n l rule limit a.0, long_held n h a.1)

pub fresh_notice_lem : (n l limit rule waiting posted sent dropped : ℕ) → notice_of (fresh_verdict n l limit rule waiting posted sent dropped) ≡ fresh_notice n l limit rule waiting posted sent dropped
unfolding fresh_verdict fresh_notice held_short_verdict
fresh_notice_lem n l limit rule waiting posted sent dropped = ranges_in_numbers n l rule limit _ (in_numbers _ _ _ refl)

-- ---- post
-- what an accepted post has passed
pub record PostFits (arrivals : List ℕ) (h : Held) : Type 0 where
  pub ranges : Ranges h.run.nodes h.run.slots h.run.rule h.run.limit
  pub given : Square h.run.nodes arrivals
  pub long_enough : LongEnough h.run.nodes h
  pub balanced : Balanced h
  pub few : h.run.posts < 1000000
  pub within : Demands h.run.nodes arrivals

pub post_accepted : (arrivals : List ℕ) (h : Held) → post_verdict arrivals h ≡ Accepted → PostFits arrivals h
unfolding post_verdict
post_accepted arrivals h e =
    let a = then_passed _ _ e in
    let b = then_passed _ _ a.1 in
    let c = then_passed _ _ b.1 in
    let d = then_passed _ _ c.1 in
    let f = then_passed _ _ d.1 in
    let r = ranged h.run.nodes h.run.slots h.run.rule h.run.limit a.0 in
    record {
      ranges = r;
      given = record { nodes = r.sizes.nodes; cells = long_demand h.run.nodes (length arrivals) b.0 };
      long_enough = long_held h.run.nodes h c.0;
      balanced = balanced h d.0;
      few = counted h.run.posts f.0;
      within = within h.run.nodes arrivals f.1;
    }

pub post_accepts : {arrivals : List ℕ} {h : Held} → PostFits arrivals h → Accepted ≡ post_verdict arrivals h
unfolding post_verdict
post_accepts {arrivals} {h} fits =
    then_goes (ranges_fit h.run.nodes h.run.slots h.run.rule h.run.limit fits.ranges) refl
    (then_goes (demand_fits h.run.nodes (length arrivals) fits.given.cells) refl
    (then_goes (held_fits fits.long_enough) refl
    (then_goes (agreement_fits fits.balanced) refl
    (then_goes (count_fits fits.few) refl
    (demand_within h.run.nodes arrivals fits.within)))))

pub post_notice_lem : (arrivals : List ℕ) (h : Held) → notice_of (post_verdict arrivals h) ≡ post_notice arrivals h
unfolding post_verdict post_notice demand_short_verdict held_short_verdict agreement_verdict count_verdict demand_above_verdict
post_notice_lem arrivals h =
    ranges_in_numbers h.run.nodes h.run.slots h.run.rule h.run.limit _
    (group_in_numbers _ _ _ _ (group_ends _
    (group_in_numbers _ _ _ _ (group_ends _
    (group_in_numbers _ _ _ _ (group_ends _
    (group_in_numbers _ _ _ _ (group_ends _
    (in_numbers _ _ _ refl)))))))))

-- ---- frame
-- what an accepted frame has passed
pub record FrameFits (h : Held) (k : Lent) : Type 0 where
  pub ranges : Ranges h.run.nodes h.run.slots h.run.rule h.run.limit
  pub long_enough : LongEnough h.run.nodes h
  pub tables : LentRoom h.run.nodes h.run.slots k
  pub balanced : Balanced h
  pub few : h.run.frames < 1000000

pub frame_accepted : (h : Held) (k : Lent) → frame_verdict h (length k.kept) (length k.withdrawn) (length k.schedule) ≡ Accepted → FrameFits h k
unfolding frame_verdict
frame_accepted h k e =
    let a = then_passed _ _ e in
    let b = then_passed _ _ a.1 in
    let c = then_passed _ _ b.1 in
    let d = then_passed _ _ c.1 in
    record {
      ranges = ranged h.run.nodes h.run.slots h.run.rule h.run.limit a.0;
      long_enough = long_held h.run.nodes h b.0;
      tables = long_lent h.run.nodes h.run.slots k c.0;
      balanced = balanced h d.0;
      few = counted h.run.frames d.1;
    }

pub frame_accepts : {h : Held} {k : Lent} → FrameFits h k → Accepted ≡ frame_verdict h (length k.kept) (length k.withdrawn) (length k.schedule)
unfolding frame_verdict
frame_accepts {h} fits =
    then_goes (ranges_fit h.run.nodes h.run.slots h.run.rule h.run.limit fits.ranges) refl
    (then_goes (held_fits fits.long_enough) refl
    (then_goes (lent_fits fits.tables) refl
    (then_goes (agreement_fits fits.balanced) refl
    (count_fits fits.few))))

pub frame_notice_lem : (h : Held) (kept withdrawn schedule : ℕ) → notice_of (frame_verdict h kept withdrawn schedule) ≡ frame_notice h kept withdrawn schedule
unfolding frame_verdict frame_notice held_short_verdict lent_short_verdict agreement_verdict count_verdict
frame_notice_lem h kept withdrawn schedule =
    ranges_in_numbers h.run.nodes h.run.slots h.run.rule h.run.limit _
    (group_in_numbers _ _ _ _ (group_ends _
    (group_in_numbers _ _ _ _ (group_ends _
    (group_in_numbers _ _ _ _ (group_ends _
    (in_numbers _ _ _ refl))))))
    ∙ either _ _ 5 0 _)
