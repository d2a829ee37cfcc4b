-- What a fresh start, arrivals and a frame make of a run's tables, over what these hold at entry. Cells beyond the first N×N are as before.
use Rattle.std.specs.Prelude.{ℕ, ◌+◌, ◌-◌, ◌*◌, min, List, get_or, replicate}
use Rattle.sums.specs.Tables.{tab, written}

-- a table at a fresh start
unfoldable pub zeroed : (n : ℕ) (table : List ℕ) → List ℕ
zeroed n table = written (n * n) (replicate (n * n) 0) table

-- each pair's cell anew
abbrev pub renewed : (n : ℕ) (new : ℕ → ℕ) (table : List ℕ) → List ℕ
renewed n new table = written (n * n) (tab (n * n) new) table

-- amounts with what is added to them: posted with the arrivals, sent with what a frame keeps
unfoldable pub increased : (n : ℕ) (added amounts : List ℕ) → List ℕ
increased n added amounts = renewed n (λ p. get_or amounts p 0 + get_or added p 0) amounts

-- dropped, with what of the arrivals would lift waiting above B
unfoldable pub overflowed : (n limit : ℕ) (arrivals waiting dropped : List ℕ) → List ℕ
overflowed n limit arrivals waiting dropped = renewed n (λ p. get_or dropped p 0 + (get_or waiting p 0 + get_or arrivals p 0 - limit)) dropped

-- waiting, with the rest of the arrivals
unfoldable pub queued : (n limit : ℕ) (arrivals waiting : List ℕ) → List ℕ
queued n limit arrivals waiting = renewed n (λ p. min (get_or waiting p 0 + get_or arrivals p 0) limit) waiting

-- waiting, without what a frame keeps
unfoldable pub served : (n : ℕ) (kept waiting : List ℕ) → List ℕ
served n kept waiting = renewed n (λ p. get_or waiting p 0 - get_or kept p 0) waiting
