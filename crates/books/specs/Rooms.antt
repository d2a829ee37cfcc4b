-- What the work on a run's tables asks: a cell for each pair, numbers in their ranges, and sums that fit their cells.
use Rattle.std.specs.Prelude.{ℕ, ◌+◌, ◌*◌, ◌≤◌, ◌<◌, ◌^◌, List, get_or}
use Rattle.star.specs.Tables.{Demands}
use Rattle.star.specs.Rooms.{Square}

-- each of a run's four tables has a cell for each pair
pub record Tables (n : ℕ) (waiting posted sent dropped : List ℕ) : Type 0 where
  pub queues : Square n waiting
  pub postings : Square n posted
  pub sendings : Square n sent
  pub drops : Square n dropped

-- numbers that are added to 64-bit amounts, cell by cell
pub record Adds (n : ℕ) (amounts added : List ℕ) : Type 0 where
  pub room : Square n amounts
  pub given : Square n added
  pub fits : (p : ℕ) → p < n * n → get_or amounts p 0 + get_or added p 0 < 2 ^ 64

-- arrivals at queues
pub record Arrives (n : ℕ) (arrivals waiting : List ℕ) : Type 0 where
  pub room : Square n waiting
  pub given : Square n arrivals
  pub queues : Demands n waiting
  pub within : Demands n arrivals

-- arrivals at queues, with the amounts that were dropped: far from the largest number of 64 bits
pub record Drops (n : ℕ) (arrivals waiting dropped : List ℕ) : Type 0 where
  pub arrives : Arrives n arrivals waiting
  pub amounts : Square n dropped
  pub few : (p : ℕ) → p < n * n → get_or dropped p 0 < 2 ^ 63

-- kept slots that are taken from queues
pub record Takes (n : ℕ) (kept waiting : List ℕ) : Type 0 where
  pub room : Square n waiting
  pub given : Square n kept
  pub below : (p : ℕ) → p < n * n → get_or kept p 0 ≤ get_or waiting p 0
