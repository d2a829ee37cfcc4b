-- Schedules of l slots over n nodes: bytes, slot k, destination j at k×N+j, holding the source, or 255 for idle.
use Rattle.std.specs.Prelude.{ℕ, suc, ◌+◌, ◌-◌, ◌≤◌, ◌<◌, ◌≡◌, ◌⊎◌, Bool, not, List, get_or, ltb, eqb}
use Rattle.sums.specs.Sums.{sum_to, bit, hit}
use Rattle.sums.specs.Searches.{some_below}
use Rattle.sums.specs.Tables.{cell, square}
use Rattle.star.specs.Lines.{Admissible}

-- In each slot a destination hears one source or nobody, and a source feeds at most one destination.
pub record ConflictFree (n l : ℕ) (s : List ℕ) : Type 0 where
  pub heard : (k j : ℕ) → k < l → j < n → (cell n s k j < n) ⊎ (cell n s k j ≡ 255)
  pub once : (k j v : ℕ) → k < l → j < n → v < n → cell n s k j < n → cell n s k j ≡ cell n s k v → j ≡ v

-- how many slots source i has at destination j
unfoldable pub count : (n l : ℕ) (s : List ℕ) (i j : ℕ) → ℕ
count n l s i j = sum_to l (λ k. hit (cell n s k j) i)

-- The schedule names source i for destination j exactly kept(i,j) times and holds 255 elsewhere.
pub record Carries (n l : ℕ) (s k : List ℕ) : Type 0 where
  pub free : ConflictFree n l s
  pub exact : (i j : ℕ) → i < n → j < n → count n l s i j ≡ cell n k i j

-- no line has more slots than its capacity
abbrev pub Respects : (n l : ℕ) (cap s : List ℕ) → Type 0
Respects n l cap s = Admissible n cap (square n (count n l s))

-- in how many slots source i is heard
unfoldable pub heard_in : (n l : ℕ) (s : List ℕ) (i : ℕ) → ℕ
heard_in n l s i = sum_to l (λ k. bit (some_below n (λ j. eqb (cell n s k j) i)))

-- in how many slots destination j hears a source
unfoldable pub hears_in : (n l : ℕ) (s : List ℕ) (j : ℕ) → ℕ
hears_in n l s j = sum_to l (λ k. bit (ltb (cell n s k j) n))

-- With capacities, conflict-free schedules also respect them: no source is heard, and no destination hears, in more slots than its line's capacity.
pub record ConflictFreeWithin (n l : ℕ) (cap s : List ℕ) : Type 0 where
  pub free : ConflictFree n l s
  pub sources : (i : ℕ) → i < n → heard_in n l s i ≤ get_or cap i 0
  pub destinations : (j : ℕ) → j < n → hears_in n l s j ≤ get_or cap (n + j) 0

-- Refused in 000 is the sum over pairs of the demand not met by the slots given: more slots than asked count for nothing.
unfoldable pub refused_by : (n l : ℕ) (d s : List ℕ) → ℕ
refused_by n l d s = sum_to n (λ i. sum_to n (λ j. cell n d i j - count n l s i j))

-- slot k of one schedule and slot m of another differ for some destination, idle being a value like any other
unfoldable pub differ : (n : ℕ) (one : List ℕ) (k : ℕ) (other : List ℕ) (m : ℕ) → Bool
differ n one k other m = some_below n (λ j. not (eqb (cell n one k j) (cell n other m j)))

-- The reconfigurations: the number of k from 0 to L−2 at which slot k and slot k+1 differ.
unfoldable pub reconfigurations : (n l : ℕ) (s : List ℕ) → ℕ
reconfigurations n l s = sum_to (l - 1) (λ k. bit (differ n s k s (suc k)))
