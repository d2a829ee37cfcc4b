-- What follows from the promises of `answer` and `print` for every answer that meets them, as statements; their proofs are in
-- proofs/PrintTheorems.antt.
use Rattle.std.specs.Prelude.{ℕ, ◌*◌, ◌≤◌, ◌<◌, ◌≡◌, List, length, get_or}
use Rattle.star.specs.declared.refusals.Refusal.{Refusal}
use Rattle.star.specs.Refusals.{Accepted, Refused}
use Rattle.pieces.specs.Pieces.{Answered}
use Rattle.calls.specs.Held.{Held}
use Rattle.files.specs.Output.{Output, output_verdict}
use Rattle.files.specs.Format.{nodes_of, rule_of, entries_of}
use Rattle.files.specs.Reading.{read_verdict}
use Rattle.play.specs.Plays.{Played}
use Rattle.scenario_text.specs.Lines.{held_text, longest_text}
use Rattle.scenario_text.specs.Outcomes.{PrintsFile, PrintResult}

-- Two texts are the lines of two runs of the file, in which each pair has the same posted: so that lines stand for the same pairs, and differ in
-- sent, dropped and waiting at most.
pub record SamePosted (file text₁ text₂ : List ℕ) : Type 0 where
  pub h : Held
  pub k : Held
  pub one : Played file (entries_of file) h
  pub other : Played file (entries_of file) k
  pub lines_one : text₁ ≡ held_text (nodes_of file) h
  pub lines_other : text₂ ≡ held_text (nodes_of file) k
  pub posted : (c : ℕ) → c < nodes_of file * nodes_of file → get_or h.posted c 0 ≡ get_or k.posted c 0

-- Two texts for one input agree: where it is too long, refused, or played under the fair rule, in everything; under the least rule in the pairs and in
-- what was posted. What is left is listed in docs/FREEDOMS.md.
pub record PrintsAgree (input text₁ text₂ : List ℕ) : Type 0 where
  pub long : 65536 < length input → text₁ ≡ text₂
  pub refused : (r : Refusal) → length input ≤ 65536 → read_verdict input ≡ Refused r → text₁ ≡ text₂
  pub fair : length input ≤ 65536 → read_verdict input ≡ Accepted → rule_of input ≡ 0 → text₁ ≡ text₂
  pub least : length input ≤ 65536 → read_verdict input ≡ Accepted → SamePosted input text₁ text₂

pub record PrintTheorems : Type 0 where
  pub unique : (input text₁ text₂ : List ℕ) → PrintsFile input text₁ → PrintsFile input text₂ → PrintsAgree input text₁ text₂
  -- with rule 0 in its table an input has one text, whatever else it holds
  pub certain : (input text₁ text₂ : List ℕ) → PrintsFile input text₁ → PrintsFile input text₂ → rule_of input ≡ 0 → text₁ ≡ text₂
  -- where the texts are the same, so are all lent bytes and the length given
  pub bytes : (input out out₁ out₂ : List ℕ) (r₁ r₂ : ℕ) (a : Answered (PrintsFile input) out out₁ r₁) (b : Answered (PrintsFile input) out out₂ r₂) → a.text ≡ b.text →
      (out₁ ≡ out₂) × (r₁ ≡ r₂)
  -- bytes enough for the longest text are accepted, whatever the file
  pub accepts : (file text text' : List ℕ) (r : Output) → PrintResult file text text' r → longest_text ≤ length text → output_verdict r ≡ Accepted
