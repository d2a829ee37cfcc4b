-- What follows from the promises of `fresh`, `post` and `frame`, as statements; their proofs are in proofs/CallLaws.antt and proofs/FrameLaws.antt.
use Rattle.std.specs.Prelude.{ℕ, ◌+◌, ◌*◌, ◌≤◌, ◌<◌, ◌≡◌, List, length, get_or, take}
use Rattle.star.specs.declared.refusals.Refusal.{Refusal}
use Rattle.star.specs.Refusals.{Verdict, Accepted, Refused, Ranges, verdict_of}
use Rattle.star.specs.Tables.{Alike}
use Rattle.planner.specs.Plans.{Answer, PlanResult}
use Rattle.planner.specs.Theorems.{SameResults, SameAsNeeded}
use Rattle.planner.specs.Lent.{Lent, LentRoom}
use Rattle.calls.specs.Held.{Held, LongEnough, HeldAlike}
use Rattle.calls.specs.Runs.{Freshened, Posted, Framed}

-- ---- what is asked of a call that is to be accepted, in plain inequalities
-- the books of each pair agree
pub record BooksInOrder (n : ℕ) (h : Held) : Type 0 where
  pub queued : (p : ℕ) → p < n * n → get_or h.waiting p 0 ≤ h.run.limit
  pub balanced : (p : ℕ) → p < n * n → get_or h.posted p 0 ≡ get_or h.waiting p 0 + get_or h.sent p 0 + get_or h.dropped p 0
  pub possible : (p : ℕ) → p < n * n → get_or h.posted p 0 ≤ 65535 * h.run.posts

-- numbers in their ranges, tables that are long enough, books that agree
pub record Callable (h : Held) : Type 0 where
  pub ranges : Ranges h.run.nodes h.run.slots h.run.rule h.run.limit
  pub long_enough : LongEnough h.run.nodes h
  pub books_in_order : BooksInOrder h.run.nodes h

-- the four tables keep their lengths
pub record SameLengths (h h' : Held) : Type 0 where
  pub waiting : length h'.waiting ≡ length h.waiting
  pub posted : length h'.posted ≡ length h.posted
  pub sent : length h'.sent ≡ length h.sent
  pub dropped : length h'.dropped ≡ length h.dropped

-- ---- fresh: what is in order is accepted; two results on the same input are one; cells that are not needed do not matter
pub record FreshTheorems : Type 0 where
  pub accepts : (n l limit rule : ℕ) (h h' : Held) (v : Verdict) → Freshened n l limit rule h h' v → Ranges n l rule limit → LongEnough n h → v ≡ Accepted
  pub unique : (n l limit rule : ℕ) (h h₁ h₂ : Held) (v₁ v₂ : Verdict) → Freshened n l limit rule h h₁ v₁ → Freshened n l limit rule h h₂ v₂ → (v₁ ≡ v₂) × (h₁ ≡ h₂)
  pub needed : (n l limit rule : ℕ) (h h' k k' : Held) (v₁ v₂ : Verdict) → Freshened n l limit rule h h' v₁ → Freshened n l limit rule k k' v₂ → LongEnough n h → LongEnough n k →
      (v₁ ≡ v₂) × (v₁ ≡ Accepted → HeldAlike n h' k')
  pub lengths : (n l limit rule : ℕ) (h h' : Held) (v : Verdict) → Freshened n l limit rule h h' v → SameLengths h h'

-- ---- post, likewise
pub record PostTheorems : Type 0 where
  pub accepts : (arrivals : List ℕ) (h h' : Held) (v : Verdict) → Posted arrivals h h' v → Callable h → h.run.nodes * h.run.nodes ≤ length arrivals →
      ((p : ℕ) → p < h.run.nodes * h.run.nodes → get_or arrivals p 0 ≤ 65535) → h.run.posts < 1000000 → v ≡ Accepted
  pub unique : (arrivals : List ℕ) (h h₁ h₂ : Held) (v₁ v₂ : Verdict) → Posted arrivals h h₁ v₁ → Posted arrivals h h₂ v₂ → (v₁ ≡ v₂) × (h₁ ≡ h₂)
  pub needed : (a b : List ℕ) (h h' k k' : Held) (v₁ v₂ : Verdict) → Posted a h h' v₁ → Posted b k k' v₂ → Alike (h.run.nodes * h.run.nodes) a b → HeldAlike h.run.nodes h k →
      (v₁ ≡ v₂) × HeldAlike h.run.nodes h' k'
  pub lengths : (arrivals : List ℕ) (h h' : Held) (v : Verdict) → Posted arrivals h h' v → SameLengths h h'

-- ---- frame
-- Two results on the same record and tables agree as two plans do, and in the record; and what is held then is the same where the call is refused,
-- under the fair rule, and under the least rule where they agree in A.
pub record SameFrames (rule : ℕ) (k₁ k₂ : Lent) (h₁ h₂ : Held) (r₁ r₂ : Answer) : Type 0 where
  pub plans : SameResults rule k₁ k₂ r₁ r₂
  pub records : h₁.run ≡ h₂.run
  pub refused_held : (x : Refusal) → verdict_of r₁ ≡ Refused x → h₁ ≡ h₂
  pub fair_held : verdict_of r₁ ≡ Accepted → rule ≡ 0 → h₁ ≡ h₂
  pub least_held : verdict_of r₁ ≡ Accepted → rule ≡ 1 → k₁.withdrawn ≡ k₂.withdrawn → h₁ ≡ h₂

-- Where what is held agrees as far as it is needed, whatever tables are lent, they agree as two plans do as far as is needed, and so does what is held then.
pub record SameFramesAsNeeded (n rule : ℕ) (k₁ k₂ : Lent) (h₁ h₂ : Held) (r₁ r₂ : Answer) : Type 0 where
  pub plans : SameAsNeeded n rule k₁ k₂ r₁ r₂
  pub refused_held : (x : Refusal) → verdict_of r₁ ≡ Refused x → HeldAlike n h₁ h₂
  pub fair_held : verdict_of r₁ ≡ Accepted → rule ≡ 0 → HeldAlike n h₁ h₂
  pub least_held : verdict_of r₁ ≡ Accepted → rule ≡ 1 → take (n * n) k₁.withdrawn ≡ take (n * n) k₂.withdrawn → HeldAlike n h₁ h₂

pub record FrameTheorems : Type 0 where
  pub accepts : (k k' : Lent) (h h' : Held) (r : Answer) → Framed k k' h h' r → Callable h → LentRoom h.run.nodes h.run.slots k → h.run.frames < 1000000 → verdict_of r ≡ Accepted
  -- an accepted frame keeps the promise of `plan` with what waits as the demand, so that all theorems on plans hold of it
  pub planned : (k k' : Lent) (h h' : Held) (r : Answer) → Framed k k' h h' r → verdict_of r ≡ Accepted → PlanResult h.run.nodes h.run.slots h.run.rule h.waiting k k' r
  pub unique : (k k₁ k₂ : Lent) (h h₁ h₂ : Held) (r₁ r₂ : Answer) → Framed k k₁ h h₁ r₁ → Framed k k₂ h h₂ r₂ → SameFrames h.run.rule k₁ k₂ h₁ h₂ r₁ r₂
  pub needed : (k k₁ x k₂ : Lent) (h h₁ g h₂ : Held) (r₁ r₂ : Answer) → Framed k k₁ h h₁ r₁ → Framed x k₂ g h₂ r₂ → HeldAlike h.run.nodes h g →
      LentRoom h.run.nodes h.run.slots k → LentRoom h.run.nodes h.run.slots x → SameFramesAsNeeded h.run.nodes h.run.rule k₁ k₂ h₁ h₂ r₁ r₂
  pub lengths : (k k' : Lent) (h h' : Held) (r : Answer) → Framed k k' h h' r →
      SameLengths h h' × (length k'.kept ≡ length k.kept) × (length k'.withdrawn ≡ length k.withdrawn) × (length k'.schedule ≡ length k.schedule)
