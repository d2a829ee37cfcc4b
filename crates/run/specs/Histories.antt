-- The history of a run, and what its books say at every moment of it.
use Rattle.std.specs.Prelude.{ℕ, ◌+◌, ◌-◌, ◌*◌, ◌≤◌, ◌<◌, min, ◌≡◌, List, [], ◌∷◌, ◌++◌, length, Ok, Err}
use Rattle.sums.specs.Sums.{sum_to}
use Rattle.sums.specs.Tables.{cell}
use Rattle.star.specs.declared.refusals.Refusal.{Refusal}
use Rattle.star.specs.declared.refusals.Refusal.TheVariants.{BooksDisagree}
use Rattle.star.specs.Refusals.{Verdict, Accepted, Refused, verdict_of}
use Rattle.star.specs.Schedules.{ConflictFree, count}
use Rattle.planner.specs.Plans.{Answer}
use Rattle.planner.specs.Lent.{Lent}
use Rattle.calls.specs.Held.{Held, LongEnough, disagreeing}
use Rattle.calls.specs.Runs.{Freshened, Posted, Framed}

-- What happens to a run: a post of arrivals and its verdict; a frame with the tables lent to it, what they then hold, and its answer; or a fresh
-- start with N, L, B and a rule that is refused, so that the run goes on.
pub data Event : Type 0 where
  posting : (arrivals : List ℕ) (v : Verdict) → Event
  framing : (lent plan : Lent) (r : Answer) → Event
  restarting : (n l limit rule : ℕ) (x : Refusal) → Event

-- how an event was answered: refused events are part of a history too
abbrev pub outcome : Event → Verdict
outcome (posting arrivals v) = v
outcome (framing lent plan r) = verdict_of r
outcome (restarting n l limit rule x) = Refused x

-- An event takes what is held to what is held then, by the very promises of `post`, `frame` and `fresh`.
abbrev pub Happens : (e : Event) (h h' : Held) → Type 0
Happens (posting arrivals v) h h' = Posted arrivals h h' v
Happens (framing lent plan r) h h' = Framed lent plan h h' r
Happens (restarting n l limit rule x) h h' = Freshened n l limit rule h h' (Refused x)

-- The events since the last accepted fresh start, with N, L, B and the rule, the latest first, and what is held after them.
pub data History (n l limit rule : ℕ) : List Event → Held → Type 0 where
  started : (h h' : Held) → Freshened n l limit rule h h' Accepted → History n l limit rule [] h'
  continued : (e : Event) (es : List Event) (h h' : Held) → History n l limit rule es h → Happens e h h' → History n l limit rule (e ∷ es) h'

-- ---- what the events alone say of the pair of source i and destination j
-- x where the event was accepted, and y where it was refused
abbrev pub whether : (v : Verdict) (x y : ℕ) → ℕ
whether (Ok _) x y = x
whether (Err r) x y = y

-- the sum of the arrivals of accepted posts
unfoldable pub arrived : (n : ℕ) (es : List Event) (i j : ℕ) → ℕ
arrived n [] i j = 0
arrived n (posting arrivals v ∷ es) i j = arrived n es i j + whether v (cell n arrivals i j) 0
arrived n (framing lent plan r ∷ es) i j = arrived n es i j
arrived n (restarting n' l' limit' rule' x ∷ es) i j = arrived n es i j

-- the number of entries for the pair in the schedules of accepted frames
unfoldable pub carried : (n l : ℕ) (es : List Event) (i j : ℕ) → ℕ
carried n l [] i j = 0
carried n l (posting arrivals v ∷ es) i j = carried n l es i j
carried n l (framing lent plan r ∷ es) i j = carried n l es i j + whether (verdict_of r) (count n l plan.schedule i j) 0
carried n l (restarting n' l' limit' rule' x ∷ es) i j = carried n l es i j

-- the queue: an accepted post lengthens it to B at most, an accepted frame takes the slots that its schedule gives the pair
unfoldable pub queue : (n l limit : ℕ) (es : List Event) (i j : ℕ) → ℕ
queue n l limit [] i j = 0
queue n l limit (posting arrivals v ∷ es) i j = whether v (min (queue n l limit es i j + cell n arrivals i j) limit) (queue n l limit es i j)
queue n l limit (framing lent plan r ∷ es) i j =
    queue n l limit es i j - whether (verdict_of r) (count n l plan.schedule i j) 0
queue n l limit (restarting n' l' limit' rule' x ∷ es) i j = queue n l limit es i j

-- the sum of what exceeded B at accepted posts
unfoldable pub exceeded : (n l limit : ℕ) (es : List Event) (i j : ℕ) → ℕ
exceeded n l limit [] i j = 0
exceeded n l limit (posting arrivals v ∷ es) i j = exceeded n l limit es i j + whether v (queue n l limit es i j + cell n arrivals i j - limit) 0
exceeded n l limit (framing lent plan r ∷ es) i j = exceeded n l limit es i j
exceeded n l limit (restarting n' l' limit' rule' x ∷ es) i j = exceeded n l limit es i j

-- how many posts, and how many frames, were accepted
unfoldable pub posts_of : List Event → ℕ
posts_of [] = 0
posts_of (posting arrivals v ∷ es) = posts_of es + whether v 1 0
posts_of (framing lent plan r ∷ es) = posts_of es
posts_of (restarting n l limit rule x ∷ es) = posts_of es

unfoldable pub frames_of : List Event → ℕ
frames_of [] = 0
frames_of (posting arrivals v ∷ es) = frames_of es
frames_of (framing lent plan r ∷ es) = frames_of es + whether (verdict_of r) 1 0
frames_of (restarting n l limit rule x ∷ es) = frames_of es

-- over all pairs: what of a demand a schedule meets, more slots than asked counting for nothing ..
unfoldable pub met : (n l : ℕ) (asked : ℕ → ℕ → ℕ) (schedule : List ℕ) → ℕ
met n l asked schedule = sum_to n (λ i. sum_to n (λ j. min (asked i j) (count n l schedule i j)))

-- .. and all slots that it gives
unfoldable pub given : (n l : ℕ) (schedule : List ℕ) → ℕ
given n l schedule = sum_to n (λ i. sum_to n (λ j. count n l schedule i j))

-- A frame of L slots sends as much of what waits as any conflict-free frame could: it has all of its slots, gives no pair more than waits, and over
-- all pairs gives no less than another schedule meets.
pub record SendsMost (n l : ℕ) (waits : ℕ → ℕ → ℕ) (schedule : List ℕ) : Type 0 where
  pub whole : l * n ≤ length schedule
  pub waited : (i j : ℕ) → i < n → j < n → count n l schedule i j ≤ waits i j
  pub most : (other : List ℕ) → ConflictFree n l other → met n l waits other ≤ given n l schedule

-- ---- the books of a run hold, at every moment of its history (`books_hold` in proofs/HistoryLaws.antt)
pub record BooksHold (n l limit rule : ℕ) (es : List Event) (h : Held) : Type 0 where
  -- the record keeps N, L, B and the rule, and counts the accepted posts and frames
  pub run : h.run ≡ record { nodes = n; slots = l; limit = limit; rule = rule; posts = posts_of es; frames = frames_of es }
  -- the tables are as long as the run needs them
  pub long_enough : LongEnough n h
  -- nothing is lost: posted = sent + dropped + waiting
  pub balance : (i j : ℕ) → i < n → j < n → cell n h.posted i j ≡ cell n h.sent i j + cell n h.dropped i j + cell n h.waiting i j
  -- each of the four is read off posts and schedules
  pub posted : (i j : ℕ) → i < n → j < n → cell n h.posted i j ≡ arrived n es i j
  pub sent : (i j : ℕ) → i < n → j < n → cell n h.sent i j ≡ carried n l es i j
  pub dropped : (i j : ℕ) → i < n → j < n → cell n h.dropped i j ≡ exceeded n l limit es i j
  pub waiting : (i j : ℕ) → i < n → j < n → cell n h.waiting i j ≡ queue n l limit es i j
  -- the books of every pair agree, so that refusal 8 comes nowhere in the history
  pub agree : disagreeing h ≡ n * n
  pub never_eight : (later earlier : List Event) (e : Event) (p : ℕ) → es ≡ later ++ e ∷ earlier → outcome e ≡ Refused (BooksDisagree p) → ⊥
  -- under the least rule every accepted frame sends as much of what waits as any conflict-free frame of L slots could
  pub most : rule ≡ 1 → (later earlier : List Event) (lent plan : Lent) (r : Answer) →
      es ≡ later ++ framing lent plan r ∷ earlier → verdict_of r ≡ Accepted → SendsMost n l (queue n l limit earlier) plan.schedule
