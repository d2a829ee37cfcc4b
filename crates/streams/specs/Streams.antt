-- What a program makes of its input: what it reads of it, and what it writes; and what an error leaves of that.
use Rattle.std.specs.Prelude.{ℕ, List, Option, length, take, ◌<◌, ◌≤◌, ◌⊎◌}
use Rattle.std.specs.Io.KnownBytes.{Consumes, Appends, Keeps, IsAtEnd}

-- An error of the reader leaves fewer bytes read than there is room for.
pub record ReadPartly (room : ℕ) (left left' : Option (List ℕ)) : Type 0 where
  pub bytes : List ℕ
  pub few : length bytes < room
  pub reads : Consumes left left' bytes

-- An error of the writer leaves a front of the bytes written, not all of them, and nothing else.
pub record WrittenPartly (bytes : List ℕ) (written written' : Option (List ℕ)) : Type 0 where
  pub count : ℕ
  pub short : count < length bytes
  pub front : Appends written written' (take count bytes)

-- Of the bytes that are left to read, at first and at last, some are read, no more than the limit, and fewer only where none is left; and a text that is
-- promised of those read is written as it is said.
pub record Answers (limit : ℕ) (promised : List ℕ → List ℕ → Type 0) (left left' : Option (List ℕ)) (Written : List ℕ → Type 0) : Type 0 where
  pub input : List ℕ
  pub text : List ℕ
  pub few : length input ≤ limit
  pub reads : Consumes left left' input
  pub whole : length input < limit → IsAtEnd left'
  pub prints : promised input text
  pub writes : Written text

-- All of the text is written, and nothing else.
abbrev pub AnswersInput : (limit : ℕ) (promised : List ℕ → List ℕ → Type 0) (left left' written written' : Option (List ℕ)) → Type 0
AnswersInput limit promised left left' written written' = Answers limit promised left left' (Appends written written')

-- An error leaves nothing written where the reader failed, and a front of the text where the writer did.
abbrev pub AnswersPartly : (limit : ℕ) (promised : List ℕ → List ℕ → Type 0) (left left' written written' : Option (List ℕ)) → Type 0
AnswersPartly limit promised left left' written written' =
    (ReadPartly limit left left' × Keeps written written') ⊎ Answers limit promised left left' (λ text. WrittenPartly text written written')
