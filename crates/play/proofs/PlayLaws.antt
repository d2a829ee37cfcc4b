-- No call is refused while a file is played. Before every call what is held is as a call asks (`always_callable`); there are at most 4,096 events,
-- so that 9 does not come; cells of two bytes are at most 65,535, so that 6 does not; N, L, B and the rule are those of an accepted file, and the
-- tables are long. So each call lengthens the history by its own accepted event. Assumes nothing.
use Prim.Native.Nat.{ℕ, ◌+◌, ◌*◌, ◌≤◌, ◌<◌}
use native.Mathlib.Nat.{le_of_eq, mul-le-mul}
use native.Mathlib.Numerals.{add-one}
use native.Mathlib.Omega.{arith}
use mathlib.Core.Path.{◌≡◌, refl, sym, ◌∙◌, ap, subst}
use mathlib.Core.Bool.{cond}
use mathlib.Core.List.{List, [], ◌∷◌, ◌++◌}
use lib.ListN.{length, take, length-append}
use Rattle.std.specs.Prelude.{Result, Ok, Err}
use Rattle.std.specs.Result.{IsOk}
use borrow.Author.Tests.{eq-eqb, ne_eqb}
use Rattle.sums.specs.Tables.{tab, written}
use Rattle.sums.proofs.Tables.{mul_small, length_tab, tab_at, written_first}
use Rattle.star.specs.Refusals.{Verdict, Accepted, verdict_of, Ranges}
use Rattle.planner.specs.Plans.{Answer}
use Rattle.planner.specs.Lent.{Lent, LentRoom}
use Rattle.calls.specs.declared.record.Run.{Run}
use Rattle.calls.specs.Held.{Held, held, fresh_run, post_run, frame_run, record_after}
use Rattle.calls.specs.Runs.{Freshened, Posted, Framed}
use Rattle.calls.proofs.Outcomes.{accepted_record}
use Rattle.run.specs.Histories.{Event, posting, framing, restarting, outcome, Happens, started, continued, posts_of, frames_of, whether, BooksHold}
use Rattle.run.specs.Theorems.{Callable}
use Rattle.run.proofs.CallLaws.{fresh_theorems, post_theorems}
use Rattle.run.proofs.FrameLaws.{frame_theorems}
use Rattle.run.proofs.HistoryLaws.{books_hold, always_callable}
use Rattle.files.specs.declared.kinds.Kind.{Kind}
use Rattle.files.specs.declared.kinds.UnknownKind.{UnknownKind}
use Rattle.files.specs.Kinds.{KindOf}
use Rattle.files.specs.Format.{two, nodes_of, slots_of, limit_of, rule_of, entries_of, kind_of, place_of, post, frame, entry_of, matrix_at}
use Rattle.files.specs.Reading.{read_verdict}
use Rattle.files.proofs.ReadLaws.{Sound, accepted_sound}
use Rattle.play.specs.Plays.{told, none, more, Played, LargeTables, CanPlay, PostPlayed, FramePlayed}

-- ---- few events
whether_few : (v : Verdict) → whether v 1 0 ≤ 1
whether_few (Ok _) = omega arith
whether_few (Err r) = omega arith

posts_few : (es : List Event) → posts_of es ≤ length (told es)
unfolding told posts_of
posts_few [] = omega arith
posts_few (posting a v ∷ es) = simp length-append (omega (arith, posts_few es, whether_few v))
posts_few (framing lent plan r ∷ es) = simp length-append (omega (arith, posts_few es))
posts_few (restarting n l limit rule x ∷ es) = posts_few es

frames_few : (es : List Event) → frames_of es ≤ length (told es)
unfolding told frames_of
frames_few [] = omega arith
frames_few (posting a v ∷ es) = simp length-append (omega (arith, frames_few es))
frames_few (framing lent plan r ∷ es) = simp length-append (omega (arith, frames_few es, whether_few (verdict_of r)))
frames_few (restarting n l limit rule x ∷ es) = frames_few es

-- ---- one call more
tab_snoc : {A : Type 0} (m : ℕ) (f : ℕ → A) → tab (m + 1) f ≡ tab m f ++ (f m ∷ [])
unfolding tab
tab_snoc m f = rw add-one refl

-- ---- the tables that a frame is lent
-- tables for 64 nodes and 1,024 slots are long enough for a frame of a callable run
frame_room : {h : Held} (lent : Lent) → Callable h → 4096 ≤ length lent.kept → 4096 ≤ length lent.withdrawn → 65536 ≤ length lent.schedule → LentRoom h.run.nodes h.run.slots lent
frame_room {h} lent callable lk lw ls =
    let sizes = callable.ranges.sizes in
    let cells = mul_small h.run.nodes h.run.nodes sizes.nodes sizes.nodes in
    let bytes : h.run.slots * h.run.nodes ≤ 1024 * 64 = mul-le-mul sizes.slots sizes.nodes in
    record { kept = omega (arith, cells, lk); withdrawn = omega (arith, cells, lw); schedule = omega (arith, bytes, ls) }

-- a frame on such tables
pub frame_played : {h : Held} {beside : Run → Held} (lent plan : Lent) (r : Answer) → Framed lent plan h (beside (record_after (verdict_of r) (frame_run h.run) h.run)) r →
    length lent.kept ≡ 4096 → length lent.withdrawn ≡ 4096 → length lent.schedule ≡ 65536 → FramePlayed h beside
frame_played lent plan r f lk lw ls = record {
  lent = lent;
  plan = plan;
  r = r;
  framed = f;
  long_kept = le_of_eq (sym lk);
  long_withdrawn = le_of_eq (sym lw);
  long_schedule = le_of_eq (sym ls);
}

-- ---- what can be played
module _ {file : List ℕ} {e : ℕ} {h : Held} (c : CanPlay file e h) where
  pub can_sound : Sound file
  can_sound = accepted_sound file c.good

  books : BooksHold (nodes_of file) (slots_of file) (limit_of file) (rule_of file) c.played.events h
  books = books_hold c.played.history

  callable : Callable h
  callable = always_callable c.played.history

  pub can_nodes : h.run.nodes ≡ nodes_of file
  can_nodes = ap (λ r. r.nodes) books.run

  module _ (in_table : e < entries_of file) where
    -- the entry stands in the file's table
    pub entry_there : 28 + 8 * e ≤ length file
    entry_there = omega (arith, can_sound.table.all, in_table)

    -- and its kind is known
    pub kind_known : (kind : Result Kind UnknownKind) → KindOf (kind_of file e) kind → IsOk kind
    kind_known (Ok k) of = refl
    kind_known (Err u) of = absurd (omega (arith, of, (can_sound.entries e in_table).known))

    few : length (told c.played.events) ≤ 4096
    few = omega (arith, ap length c.played.entries, length_tab (entry_of file) e, can_sound.table.few)

    pub few_posts : h.run.posts < 1000000
    few_posts = omega (arith, few, ap (λ r. r.posts) books.run, posts_few c.played.events)

    pub few_frames : h.run.frames < 1000000
    few_frames = omega (arith, few, ap (λ r. r.frames) books.run, frames_few c.played.events)

    -- a post's matrix lies in the file
    pub post_within : kind_of file e ≡ 0 → place_of file e + 2 * (h.run.nodes * h.run.nodes) ≤ length file
    post_within z = rw can_nodes ((can_sound.entries e in_table).high z)

    -- the post's event is the file's entry
    post_entry : kind_of file e ≡ 0 → post (matrix_at h.run.nodes file (place_of file e)) ≡ entry_of file e
    unfolding entry_of
    post_entry z = ap (λ n. post (matrix_at n file (place_of file e))) can_nodes ∙ sym (ap (λ k. cond k (post (matrix_at (nodes_of file) file (place_of file e))) frame) (eq-eqb (kind_of file e) 0 z))

    frame_entry : (kind_of file e ≡ 0 → ⊥) → frame ≡ entry_of file e
    unfolding entry_of
    frame_entry z = sym (ap (λ k. cond k (post (matrix_at (nodes_of file) file (place_of file e))) frame) (ne_eqb (kind_of file e) 0 z))

    -- an accepted event more
    lengthened : {h' : Held} (next : Event) → outcome next ≡ Accepted → Happens next h h' → told (next ∷ c.played.events) ≡ told c.played.events ++ (entry_of file e ∷ []) → Played file (e + 1) h'
    lengthened {h'} next ok happens tells = record {
      events = next ∷ c.played.events;
      history = continued next c.played.events h h' c.played.history happens;
      entries = tells ∙ ap (λ x. x ++ (entry_of file e ∷ [])) c.played.entries ∙ sym (tab_snoc e (entry_of file));
      accepted = more next c.played.events ok c.played.accepted;
    }

    module _ {beside : Run → Held} where
      played_post : {new : Run} → PostPlayed file (place_of file e) h beside → kind_of file e ≡ 0 → new ≡ post_run h.run → Played file (e + 1) (beside new)
      unfolding told matrix_at
      played_post q z is =
          let arrivals = matrix_at h.run.nodes file (place_of file e) in
          let whole = le_of_eq (sym (length_tab (λ k. two file (place_of file e + 2 * k)) (h.run.nodes * h.run.nodes))) in
          let ok = post_theorems.accepts arrivals h _ q.v q.posted callable whole q.within.most few_posts in
          lengthened (posting arrivals q.v) ok
          (subst (λ r. Posted arrivals h (beside r) q.v) (accepted_record (post_run h.run) h.run ok ∙ sym is) q.posted)
          (ap (λ x. told c.played.events ++ (x ∷ [])) (post_entry z))

      pub played_frame : {new : Run} → FramePlayed h beside → (kind_of file e ≡ 0 → ⊥) → new ≡ frame_run h.run → Played file (e + 1) (beside new)
      unfolding told
      played_frame q z is =
          let ok = frame_theorems.accepts q.lent q.plan h _ q.r q.framed callable (frame_room q.lent callable q.long_kept q.long_withdrawn q.long_schedule) few_frames in
          lengthened (framing q.lent q.plan q.r) ok
          (subst (λ r. Framed q.lent q.plan h (beside r) q.r) (accepted_record (frame_run h.run) h.run ok ∙ sym is) q.framed)
          (ap (λ x. told c.played.events ++ (x ∷ [])) (frame_entry z))

-- a post of the cells read from the file
pub post_played : {file : List ℕ} {at : ℕ} {h : Held} {beside : Run → Held} {table : List ℕ} (was : List ℕ) (v : Verdict) →
    table ≡ written (h.run.nodes * h.run.nodes) (tab (h.run.nodes * h.run.nodes) (λ c. two file (at + 2 * c))) was →
    ((c : ℕ) → c < h.run.nodes * h.run.nodes → two file (at + 2 * c) ≤ 65535) →
    Posted (take (h.run.nodes * h.run.nodes) table) h (beside (record_after v (post_run h.run) h.run)) v → PostPlayed file at h beside
unfolding matrix_at
post_played {file} {at} {h} {beside} {table} was v is small t =
    let cells = h.run.nodes * h.run.nodes in
    let cut : take cells table ≡ matrix_at h.run.nodes file at
    = ap (take cells) is ∙ written_first cells (tab cells (λ c. two file (at + 2 * c))) was (length_tab (λ c. two file (at + 2 * c)) cells) in
    record {
      v = v;
      posted = subst (λ a. Posted a h (beside (record_after v (post_run h.run) h.run)) v) cut t;
      within = record { most = λ k lt. omega (arith, tab_at (λ c. two file (at + 2 * c)) cells k 0 lt, small k lt) };
    }

pub played_post_at : {file : List ℕ} {e at : ℕ} {h : Held} {new : Run} {beside : Run → Held} → CanPlay file e h → e < entries_of file → kind_of file e ≡ 0 → at ≡ place_of file e →
    PostPlayed file at h beside → new ≡ post_run h.run → Played file (e + 1) (beside new)
played_post_at {file} {h = h} {beside = beside} c in_table z there q is = played_post c in_table (subst (λ x. PostPlayed file x h beside) there q) z is

-- ---- the start
module _ (file : List ℕ) {h : Held} {waiting posted sent dropped : List ℕ} {v : Verdict} (good : read_verdict file ≡ Accepted) (rooms : LargeTables h.waiting h.posted h.sent h.dropped)
    (f : Freshened (nodes_of file) (slots_of file) (limit_of file) (rule_of file) h (held (record_after v (fresh_run (nodes_of file) (slots_of file) (limit_of file) (rule_of file)) h.run) waiting posted sent dropped) v) where
  -- it is accepted
  fresh_accepted : v ≡ Accepted
  fresh_accepted =
      let ranges : Ranges (nodes_of file) (slots_of file) (rule_of file) (limit_of file) = (accepted_sound file good).ranges in
      let cells = mul_small (nodes_of file) (nodes_of file) ranges.sizes.nodes ranges.sizes.nodes in
      fresh_theorems.accepts _ _ _ _ h _ v f ranges (record { waiting = omega (arith, cells, rooms.queues); posted = omega (arith, cells, rooms.postings); sent = omega (arith, cells, rooms.sendings); dropped = omega (arith, cells, rooms.drops) })

  first_call : {start : Run} → start ≡ fresh_run (nodes_of file) (slots_of file) (limit_of file) (rule_of file) → Freshened (nodes_of file) (slots_of file) (limit_of file) (rule_of file) h (held start waiting posted sent dropped) Accepted
  first_call {start} is =
      subst (Freshened (nodes_of file) (slots_of file) (limit_of file) (rule_of file) h (held start waiting posted sent dropped)) fresh_accepted
      (subst (λ r. Freshened (nodes_of file) (slots_of file) (limit_of file) (rule_of file) h (held r waiting posted sent dropped) v) (accepted_record _ h.run fresh_accepted ∙ sym is) f)

  -- and a history begins
  pub can_start : {start : Run} → start ≡ fresh_run (nodes_of file) (slots_of file) (limit_of file) (rule_of file) → CanPlay file 0 (held start waiting posted sent dropped)
  unfolding told tab
  can_start {start} is = record {
    good = good;
    played = record { events = []; history = started h (held start waiting posted sent dropped) (first_call is); entries = refl; accepted = none };
  }
