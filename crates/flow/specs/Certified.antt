-- What `largest` asks and promises. `bound` has n * n cells, `ceiling` and `marks` one for each of the 2N lines; longer tables are taken.
use Rattle.std.specs.Prelude.{ℕ, ◌+◌, ◌*◌, ◌≤◌, ◌<◌, ◌≡◌, List, length, get_or, drop}
use Rattle.star.specs.Tables.{Demands}
use Rattle.star.specs.Lines.{line_sum}
use Rattle.star.specs.Rooms.{Square}
use Rattle.flow.specs.Flows.{Feasible, Closed}

-- tables that are long enough, and bounds within the range of demands
pub record Bounded (n : ℕ) (bound ceiling a marks : List ℕ) : Type 0 where
  pub bounds : Square n bound
  pub demands : Demands n bound
  pub cells : Square n a
  pub ceilings : 2 * n ≤ length ceiling
  pub lines : 2 * n ≤ length marks

-- the matrix found, the marks that prove it the largest, and the cells beyond both as before
pub record Certified (n : ℕ) (bound ceiling a marks a' marks' : List ℕ) : Type 0 where
  pub feasible : Feasible n bound ceiling a'
  pub closed : Closed n bound ceiling a' marks'
  pub rest : drop (n * n) a' ≡ drop (n * n) a
  pub rest_marks : drop (2 * n) marks' ≡ drop (2 * n) marks

-- each line's ceiling has given way to what the line may still take, and the cells beyond are as before
pub record HeadroomLeft (n : ℕ) (ceiling a' headroom' : List ℕ) : Type 0 where
  pub lines : (ℓ : ℕ) → ℓ < 2 * n → line_sum n a' ℓ + get_or headroom' ℓ 0 ≡ get_or ceiling ℓ 0
  pub rest : drop (2 * n) headroom' ≡ drop (2 * n) ceiling

-- the same on tables without further cells
pub record Finished (n : ℕ) (bound ceiling a' headroom' marks' : List ℕ) : Type 0 where
  pub feasible : Feasible n bound ceiling a'
  pub closed : Closed n bound ceiling a' marks'
  pub lines : (ℓ : ℕ) → ℓ < 2 * n → line_sum n a' ℓ + get_or headroom' ℓ 0 ≡ get_or ceiling ℓ 0
