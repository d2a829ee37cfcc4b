-- What is held between the calls of a run, and what each call makes of it.
use Rattle.std.specs.Prelude.{ℕ, ◌+◌, ◌*◌, ◌≤◌, ◌≡◌, Bool, ◌||◌, List, length, Ok, Err}
use Rattle.star.specs.Refusals.{Verdict, short}
use Rattle.star.specs.Tables.{Alike}
use Rattle.books.specs.Books.{first_disagreeing}
use Rattle.books.specs.Queues.{zeroed, increased, overflowed, queued, served}
use Rattle.calls.specs.declared.record.Run.{Run}

-- the record of a run and its four tables
pub record Held : Type 0 where
  pub run : Run
  pub waiting : List ℕ
  pub posted : List ℕ
  pub sent : List ℕ
  pub dropped : List ℕ

abbrev pub held : (run : Run) (waiting posted sent dropped : List ℕ) → Held
held run waiting posted sent dropped = record { run = run; waiting = waiting; posted = posted; sent = sent; dropped = dropped }

-- each of the four tables has a cell for each pair
pub record LongEnough (n : ℕ) (h : Held) : Type 0 where
  pub waiting : n * n ≤ length h.waiting
  pub posted : n * n ≤ length h.posted
  pub sent : n * n ≤ length h.sent
  pub dropped : n * n ≤ length h.dropped

-- any of a run's four tables too short, given how many cells each has
abbrev pub held_short : (n waiting posted sent dropped : ℕ) → Bool
held_short n waiting posted sent dropped = short waiting (n * n) || short posted (n * n) || short sent (n * n) || short dropped (n * n)

-- the first pair in row order whose books disagree, or N×N
abbrev pub disagreeing : (h : Held) → ℕ
disagreeing h = first_disagreeing h.run.nodes h.run.limit h.run.posts h.waiting h.posted h.sent h.dropped

-- the records are the same, and the tables agree as far as they are needed
pub record HeldAlike (n : ℕ) (h g : Held) : Type 0 where
  pub run : h.run ≡ g.run
  pub waiting : Alike (n * n) h.waiting g.waiting
  pub posted : Alike (n * n) h.posted g.posted
  pub sent : Alike (n * n) h.sent g.sent
  pub dropped : Alike (n * n) h.dropped g.dropped

-- Fresh takes N, L, B and the rule, puts them in the record, and sets both counts and the N×N cells of waiting, posted, sent and dropped to 0.
abbrev pub fresh_run : (n l limit rule : ℕ) → Run
fresh_run n l limit rule = record { nodes = n; slots = l; limit = limit; rule = rule; posts = 0; frames = 0 }

abbrev pub after_fresh : (n l limit rule : ℕ) (h : Held) → Held
after_fresh n l limit rule h =
    held (fresh_run n l limit rule) (zeroed n h.waiting) (zeroed n h.posted) (zeroed n h.sent) (zeroed n h.dropped)

-- A post adds each arrival to posted; what would lift waiting above B is added to dropped, and the rest to waiting; posts rises by 1.
abbrev pub post_run : Run → Run
post_run old = record { nodes = old.nodes; slots = old.slots; limit = old.limit; rule = old.rule; posts = old.posts + 1; frames = old.frames }

abbrev pub after_post : (arrivals : List ℕ) (h : Held) → Held
after_post arrivals h =
    held (post_run h.run) (queued h.run.nodes h.run.limit arrivals h.waiting) (increased h.run.nodes arrivals h.posted) h.sent
    (overflowed h.run.nodes h.run.limit arrivals h.waiting h.dropped)

-- A frame takes what is kept from waiting, and adds it to sent; frames rises by 1.
abbrev pub frame_run : Run → Run
frame_run old = record { nodes = old.nodes; slots = old.slots; limit = old.limit; rule = old.rule; posts = old.posts; frames = old.frames + 1 }

abbrev pub after_frame : (kept : List ℕ) (h : Held) → Held
after_frame kept h = held (frame_run h.run) (served h.run.nodes kept h.waiting) h.posted (increased h.run.nodes kept h.sent) h.dropped

-- the record after a call: another one where the call was accepted
unfoldable pub record_after : (v : Verdict) (new old : Run) → Run
record_after (Ok _) new old = new
record_after (Err r) new old = old
