-- What is printed for an input, and what is answered.
use Rattle.std.specs.Prelude.{ℕ, ◌≤◌, ◌<◌, ◌≡◌, List, length}
use Rattle.star.specs.declared.refusals.Refusal.{Refusal}
use Rattle.star.specs.declared.refusals.Refusal.TheVariants.{TableShort}
use Rattle.star.specs.Refusals.{Verdict, Accepted, Refused}
use Rattle.star.specs.Refusals.{refusal_number, refusal_place, Notice, accepted, check, Promise, short}
use Rattle.star.specs.Checks.{refuse}
use Rattle.pieces.specs.Pieces.{Answered}
use Rattle.pieces.specs.Text.{bad_input, refusal_text}
use Rattle.calls.specs.Held.{Held}
use Rattle.files.specs.Output.{Output, output_verdict, output_length}
use Rattle.files.specs.Format.{nodes_of, entries_of}
use Rattle.files.specs.Reading.{read_verdict}
use Rattle.play.specs.Plays.{Played}
use Rattle.scenario_text.specs.Lines.{held_text, longest_text}

-- The whole file is played, and the text is the lines of what is held then.
pub record PrintsRun (file text : List ℕ) : Type 0 where
  pub h : Held
  pub played : Played file (entries_of file) h
  pub lines : text ≡ held_text (nodes_of file) h

-- Over 65,536 bytes print `bad input`. A refusal prints as in the matrix program, before anything is played. Else the file is played.
pub record PrintsFile (input text : List ℕ) : Type 0 where
  pub long : 65536 < length input → text ≡ bad_input
  pub refused : length input ≤ 65536 → (r : Refusal) → read_verdict input ≡ Refused r → text ≡ refusal_text (refusal_number r) (refusal_place r)
  pub played : length input ≤ 65536 → read_verdict input ≡ Accepted → PrintsRun input text

-- ---- into bytes of any length
-- 5 where the lent bytes have no room for the longest text
unfoldable pub print_verdict : (lent : ℕ) → Verdict
print_verdict lent = refuse (short lent longest_text) TableShort Accepted

-- the same in the documents' numbers
unfoldable pub print_notice : (lent : ℕ) → Notice
print_notice lent = check (short lent longest_text) 5 0 accepted

-- What `print` promises for every file and every lent bytes: the text for the file, or a refusal that writes nothing.
abbrev pub PrintResult : (file text text' : List ℕ) (r : Output) → Type 0
PrintResult file text text' r = Promise (output_verdict r) (print_verdict (length text)) (print_notice (length text)) text text' (Answered (PrintsFile file) text text' (output_length r))
