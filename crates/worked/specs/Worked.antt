-- Worked by hand: the fourteen starred lines a to n of document 01, as one statement about the definitions. Each line may fill the frame.
use Rattle.std.specs.Prelude.{ℕ, ◌-◌, ◌*◌, ◌≤◌, ◌<◌, ◌≡◌, List, [], ◌∷◌, take, replicate}
use Rattle.sums.specs.Tables.{cell}
use Rattle.star.specs.Lines.{total, whole_frame}
use Rattle.star.specs.Schedules.{reconfigurations}
use Rattle.star.specs.Refusals.{Verdict, Accepted, verdict_of, Sizes}
use Rattle.fair.specs.Fair.{fair_kept}
use Rattle.least.specs.Least.{Greatest, kept_from}
use Rattle.planner.specs.Plans.{Answer, Plan}
use Rattle.planner.specs.Lent.{Lent, lent, LentRoom}
use Rattle.calls.specs.declared.record.Run.{Run}
use Rattle.calls.specs.Held.{Held, held}
use Rattle.calls.specs.Runs.{Freshened, Posted, Framed}

-- a line under rule 0: what is kept, and the refused total
pub record FairLine (n l : ℕ) (d kept : List ℕ) (refused : ℕ) : Type 0 where
  pub keeps : fair_kept n (whole_frame n l) d ≡ kept
  pub refuses : total n d - total n kept ≡ refused

-- a line under rule 1: A is a greatest withdrawn matrix, kept follows from it, and the refused total
pub record LeastLine (n l : ℕ) (d a kept : List ℕ) (refused : ℕ) : Type 0 where
  pub withdraws : Greatest n (whole_frame n l) d a
  pub keeps : kept_from n (whole_frame n l) d a ≡ kept
  pub refuses : total n d - total n kept ≡ refused

-- a line under rule 1 that says "A is" and not "A may be": every greatest withdrawn matrix has the cells of this A, and so every plan keeps the same
pub record OnlyLeastLine (n l : ℕ) (d a kept : List ℕ) (refused : ℕ) : Type 0 where
  pub line : LeastLine n l d a kept refused
  pub only : (b : List ℕ) → Greatest n (whole_frame n l) d b → (i j : ℕ) → i < n → j < n → cell n b i j ≡ cell n a i j
  pub plans : (k : Lent) → Plan n l 1 (whole_frame n l) d k → take (n * n) k.kept ≡ kept

-- what every plan of a demand of nothing is, and that there is one
pub record NothingAsked (n l rule : ℕ) (d : List ℕ) : Type 0 where
  pub keeps : (k : Lent) → Plan n l rule (whole_frame n l) d k → (i j : ℕ) → i < n → j < n → cell n k.kept i j ≡ 0
  pub idles : (k : Lent) → Plan n l rule (whole_frame n l) d k → (m j : ℕ) → m < l → j < n → cell n k.schedule m j ≡ 255
  pub stays : (k : Lent) → Plan n l rule (whole_frame n l) d k → reconfigurations n l k.schedule ≡ 0
  pub planned : Plan n l rule (whole_frame n l) d (lent (replicate (n * n) 0) (replicate (n * n) 0) (replicate (l * n) 255))

-- what is held of one node: a record, and the one cell of each table
abbrev pub of_one : (run : Run) (waiting posted sent dropped : ℕ) → Held
of_one run waiting posted sent dropped = held run (waiting ∷ []) (posted ∷ []) (sent ∷ []) (dropped ∷ [])

-- a run of one node with L 4, B 6 and rule 1: fresh, post, frame, post, frame, where each call finds what the one before it left
pub record OneNode (first second : ℕ) (k₁ k₁' k₂ k₂' : Lent) (h₀ h₁ h₂ h₃ h₄ h₅ : Held) (v₀ v₁ v₂ : Verdict) (r₁ r₂ : Answer) : Type 0 where
  pub fresh : Freshened 1 4 6 1 h₀ h₁ v₀
  pub first_post : Posted (first ∷ []) h₁ h₂ v₁
  pub first_frame : Framed k₁ k₁' h₂ h₃ r₁
  pub second_post : Posted (second ∷ []) h₃ h₄ v₂
  pub second_frame : Framed k₂ k₂' h₄ h₅ r₂

-- such a run from any record, and any numbers in the one cell of each table
pub record RunLine (first second posted sent dropped waiting : ℕ) : Type 0 where
  -- however A and the slots are chosen, and whatever tables the frames are lent that are long enough, the four tables end so, ..
  pub ends : (old : Run) (w p s d : ℕ) (k₁ k₁' k₂ k₂' : Lent) (h₁ h₂ h₃ h₄ h₅ : Held) (v₀ v₁ v₂ : Verdict) (r₁ r₂ : Answer) → LentRoom 1 4 k₁ → LentRoom 1 4 k₂ →
      OneNode first second k₁ k₁' k₂ k₂' (of_one old w p s d) h₁ h₂ h₃ h₄ h₅ v₀ v₁ v₂ r₁ r₂ →
      (h₅.posted ≡ posted ∷ []) × (h₅.sent ≡ sent ∷ []) × (h₅.dropped ≡ dropped ∷ []) × (h₅.waiting ≡ waiting ∷ [])
  -- .. and there is such a run, in which every call is accepted and both frames are lent the same tables
  pub plays : (old : Run) (w p s d : ℕ) →
      (h₁ : Held) × (h₂ : Held) × (h₃ : Held) × (h₄ : Held) × (h₅ : Held) × (k₁ : Lent) × (k₂ : Lent) × (r₁ : Answer) × (r₂ : Answer)
      × OneNode first second (lent (0 ∷ []) (0 ∷ []) (0 ∷ 0 ∷ 0 ∷ 0 ∷ [])) k₁ k₁ k₂ (of_one old w p s d) h₁ h₂ h₃ h₄ h₅ Accepted Accepted Accepted r₁ r₂
      × (verdict_of r₁ ≡ Accepted) × (verdict_of r₂ ≡ Accepted)

-- the fourteen lines
pub record WorkedLines : Type 0 where
  -- a* N 1, L 4, D 4, either rule: kept 4, refused 0.
  pub a_fair : FairLine 1 4 (4 ∷ []) (4 ∷ []) 0
  pub a_least : OnlyLeastLine 1 4 (4 ∷ []) (0 ∷ []) (4 ∷ []) 0
  -- b* N 1, L 4, D 5: kept 4, refused 1. (Either rule.)
  pub b_fair : FairLine 1 4 (5 ∷ []) (4 ∷ []) 1
  pub b_least : OnlyLeastLine 1 4 (5 ∷ []) (1 ∷ []) (4 ∷ []) 1
  -- c* L 10, D rows 11 1 / 0 0, rule 1: A is 1 in cell 0 only; kept 9 1 / 0 0, refused 2.
  pub c : OnlyLeastLine 2 10 (11 ∷ 1 ∷ 0 ∷ 0 ∷ []) (1 ∷ 0 ∷ 0 ∷ 0 ∷ []) (9 ∷ 1 ∷ 0 ∷ 0 ∷ []) 2
  -- d* The same, rule 0: kept 9 0 / 0 0, refused 3.
  pub d : FairLine 2 10 (11 ∷ 1 ∷ 0 ∷ 0 ∷ []) (9 ∷ 0 ∷ 0 ∷ 0 ∷ []) 3
  -- e* L 4, D 3 3 / 3 0, rule 1: A is 2 in cell 0; kept 1 3 / 3 0, refused 2.
  pub e : OnlyLeastLine 2 4 (3 ∷ 3 ∷ 3 ∷ 0 ∷ []) (2 ∷ 0 ∷ 0 ∷ 0 ∷ []) (1 ∷ 3 ∷ 3 ∷ 0 ∷ []) 2
  -- f* The same, rule 0: kept 2 2 / 2 0, refused 3.
  pub f : FairLine 2 4 (3 ∷ 3 ∷ 3 ∷ 0 ∷ []) (2 ∷ 2 ∷ 2 ∷ 0 ∷ []) 3
  -- g* L 10, D 7 7 7 / 0 0 0 / 0 0 0, rule 1: kept row 4 3 3, refused 11.
  pub g : OnlyLeastLine 3 10 (7 ∷ 7 ∷ 7 ∷ 0 ∷ 0 ∷ 0 ∷ 0 ∷ 0 ∷ 0 ∷ []) (0 ∷ 0 ∷ 0 ∷ 0 ∷ 0 ∷ 0 ∷ 0 ∷ 0 ∷ 0 ∷ []) (4 ∷ 3 ∷ 3 ∷ 0 ∷ 0 ∷ 0 ∷ 0 ∷ 0 ∷ 0 ∷ []) 11
  -- h* The same, rule 0: kept row 3 3 3, refused 12.
  pub h : FairLine 3 10 (7 ∷ 7 ∷ 7 ∷ 0 ∷ 0 ∷ 0 ∷ 0 ∷ 0 ∷ 0 ∷ []) (3 ∷ 3 ∷ 3 ∷ 0 ∷ 0 ∷ 0 ∷ 0 ∷ 0 ∷ 0 ∷ []) 12
  -- i* L 4, D 2 2 1 / 2 0 3 / 1 3 0, rule 1: A is 1 in cells 1 and 3; kept 2 1 1 / 1 0 3 / 1 3 0, refused 2.
  pub i : OnlyLeastLine 3 4 (2 ∷ 2 ∷ 1 ∷ 2 ∷ 0 ∷ 3 ∷ 1 ∷ 3 ∷ 0 ∷ []) (0 ∷ 1 ∷ 0 ∷ 1 ∷ 0 ∷ 0 ∷ 0 ∷ 0 ∷ 0 ∷ []) (2 ∷ 1 ∷ 1 ∷ 1 ∷ 0 ∷ 3 ∷ 1 ∷ 3 ∷ 0 ∷ []) 2
  -- j* The same, rule 0: kept 1 1 0 / 1 0 2 / 1 3 0, refused 5.
  pub j : FairLine 3 4 (2 ∷ 2 ∷ 1 ∷ 2 ∷ 0 ∷ 3 ∷ 1 ∷ 3 ∷ 0 ∷ []) (1 ∷ 1 ∷ 0 ∷ 1 ∷ 0 ∷ 2 ∷ 1 ∷ 3 ∷ 0 ∷ []) 5
  -- k* L 2, D 2 2 / 2 2, rule 1: refused 4; A may be 1 1 / 1 1 or 2 0 / 0 2.
  pub k_level : LeastLine 2 2 (2 ∷ 2 ∷ 2 ∷ 2 ∷ []) (1 ∷ 1 ∷ 1 ∷ 1 ∷ []) (1 ∷ 1 ∷ 1 ∷ 1 ∷ []) 4
  pub k_crossed : LeastLine 2 2 (2 ∷ 2 ∷ 2 ∷ 2 ∷ []) (2 ∷ 0 ∷ 0 ∷ 2 ∷ []) (0 ∷ 2 ∷ 2 ∷ 0 ∷ []) 4
  -- l* N 1, L 1,024, D 65,535, rule 1: refused 64,511.
  pub l : OnlyLeastLine 1 1024 (65535 ∷ []) (64511 ∷ []) (1024 ∷ []) 64511
  -- m* All demands 0: kept 0, every schedule byte 255, reconfigurations 0. (Every N and L in range, both rules.)
  pub m : (n l rule : ℕ) (d : List ℕ) → Sizes n l → rule ≤ 1 → ((i j : ℕ) → i < n → j < n → cell n d i j ≡ 0) → NothingAsked n l rule d
  -- n* N 1, L 4, B 6, rule 1: post 10, frame, post 3, frame. Posted 13, sent 8, dropped 4, waiting 1.
  pub n : RunLine 10 3 13 8 4 1
