-- What the functions that read the list promise.
use Rattle.std.specs.Prelude.{ℕ, ◌<◌, ◌≡◌, List, [], ◌∷◌, ◌++◌, length, take, Option, None, Some}
use Rattle.std.proofs.Math.Option.{none, some}
use Rattle.number_list.specs.Input.{list_of}

-- the numbers counted, of which the table holds as many as it has cells for
pub record Stored (table : List ℕ) (count : ℕ) (numbers : List ℕ) : Type 0 where
  pub counted : count ≡ length numbers
  pub held : take (length table) numbers ≡ take count table

-- the end of a word: where it has digits, their number comes after those that the table stores
pub record Ended (table table' : List ℕ) (count count' digits value : ℕ) : Type 0 where
  pub empty : digits ≡ 0 → (count' ≡ count) × (table' ≡ table)
  pub number : 0 < digits → (numbers : List ℕ) → Stored table count numbers → Stored table' count' (numbers ++ (value ∷ []))

-- a list that the table stores
pub record Holds (input table : List ℕ) (count : ℕ) : Type 0 where
  pub numbers : List ℕ
  pub listed : list_of input ≡ some numbers
  pub stored : Stored table count numbers

-- what reading an input finds: a list that the table stores, or no list
abbrev pub Reads : (input table : List ℕ) → Option ℕ → Type 0
Reads input table None = list_of input ≡ none
Reads input table (Some count) = Holds input table count
