-- What follows for every played file, as statements; their proofs are in proofs/PlayTheorems.antt.
use Rattle.std.specs.Prelude.{ℕ, ◌*◌, ◌<◌, ◌≡◌, List, get_or}
use Rattle.calls.specs.Held.{Held, HeldAlike}
use Rattle.run.specs.Histories.{BooksHold}
use Rattle.files.specs.Format.{nodes_of, slots_of, limit_of, rule_of}
use Rattle.play.specs.Plays.{Played}

pub record PlayTheorems : Type 0 where
  -- the books hold of every played file
  pub books : (file : List ℕ) (count : ℕ) (h : Held) (p : Played file count h) → BooksHold (nodes_of file) (slots_of file) (limit_of file) (rule_of file) p.events h
  -- under rule 0, whatever was played, the record and the cells of every pair are the same
  pub unique : (file : List ℕ) (count : ℕ) (h k : Held) → rule_of file ≡ 0 → Played file count h → Played file count k → HeldAlike (nodes_of file) h k
  -- under either rule what each pair has posted is the same
  pub posted : (file : List ℕ) (count : ℕ) (h k : Held) → Played file count h → Played file count k → (c : ℕ) → c < nodes_of file * nodes_of file → get_or h.posted c 0 ≡ get_or k.posted c 0
