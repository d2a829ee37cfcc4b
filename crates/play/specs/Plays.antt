-- Playing a file: a history of a run whose events are the file's entries, in their order, each accepted.
use Rattle.std.specs.Prelude.{ℕ, ◌≤◌, ◌≡◌, List, [], ◌∷◌, ◌++◌, length}
use Rattle.sums.specs.Tables.{tab}
use Rattle.star.specs.Refusals.{Verdict, Accepted, verdict_of}
use Rattle.star.specs.Tables.{Demands}
use Rattle.planner.specs.Plans.{Answer}
use Rattle.planner.specs.Lent.{Lent}
use Rattle.calls.specs.declared.record.Run.{Run}
use Rattle.calls.specs.Held.{Held, post_run, frame_run, record_after}
use Rattle.calls.specs.Runs.{Posted, Framed}
use Rattle.run.specs.Histories.{Event, posting, framing, restarting, outcome, History}
use Rattle.files.specs.Format.{nodes_of, slots_of, limit_of, rule_of, Entry, post, frame, entry_of, matrix_at}
use Rattle.files.specs.Reading.{read_verdict}

-- The entries that events are; the events of a history stand latest first. A refused fresh start is no entry.
unfoldable pub told : List Event → List Entry
told [] = []
told (posting arrivals v ∷ es) = told es ++ (post arrivals ∷ [])
told (framing lent plan r ∷ es) = told es ++ (frame ∷ [])
told (restarting n l limit rule x ∷ es) = told es

-- every event was accepted
pub data AllAccepted : List Event → Type 0 where
  none : AllAccepted []
  more : (e : Event) (es : List Event) → outcome e ≡ Accepted → AllAccepted es → AllAccepted (e ∷ es)

-- The first entries of a file are played: there is a history that starts with an accepted fresh of the file's N, L, B and rule, whose events are
-- exactly these entries in their order, each accepted, and this is held after it.
pub record Played (file : List ℕ) (count : ℕ) (h : Held) : Type 0 where
  pub events : List Event
  pub history : History (nodes_of file) (slots_of file) (limit_of file) (rule_of file) events h
  pub entries : told events ≡ tab count (entry_of file)
  pub accepted : AllAccepted events

-- an accepted file, whose first entries are played
pub record CanPlay (file : List ℕ) (count : ℕ) (h : Held) : Type 0 where
  pub good : read_verdict file ≡ Accepted
  pub played : Played file count h

-- tables long enough for 64 nodes
pub record LargeTables (waiting posted sent dropped : List ℕ) : Type 0 where
  pub queues : 4096 ≤ length waiting
  pub postings : 4096 ≤ length posted
  pub sendings : 4096 ≤ length sent
  pub drops : 4096 ≤ length dropped

-- a post of the matrix at this place, and its verdict; what is held then beside a record
pub record PostPlayed (file : List ℕ) (at : ℕ) (h : Held) (beside : Run → Held) : Type 0 where
  pub v : Verdict
  pub posted : Posted (matrix_at h.run.nodes file at) h (beside (record_after v (post_run h.run) h.run)) v
  pub within : Demands h.run.nodes (matrix_at h.run.nodes file at)

-- a frame, the tables lent to it, what they then hold, and its answer; what is held then beside a record
pub record FramePlayed (h : Held) (beside : Run → Held) : Type 0 where
  pub lent : Lent
  pub plan : Lent
  pub r : Answer
  pub framed : Framed lent plan h (beside (record_after (verdict_of r) (frame_run h.run) h.run)) r
  pub long_kept : 4096 ≤ length lent.kept
  pub long_withdrawn : 4096 ≤ length lent.withdrawn
  pub long_schedule : 65536 ≤ length lent.schedule
