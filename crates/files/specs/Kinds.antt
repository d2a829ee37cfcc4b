-- The kinds of entries, and what the number of a kind gives.
use Rattle.std.specs.Prelude.{ℕ, ◌≡◌, ◌<◌, Result, MatchResult}
use Rattle.files.specs.declared.kinds.Kind.{Kind}
use Rattle.files.specs.declared.kinds.Kind.TheVariants.{Post, Frame}
use Rattle.files.specs.declared.kinds.UnknownKind.{UnknownKind}

-- the kind: 0 post, 1 frame
abbrev pub kind_number : Kind → ℕ
kind_number Post = 0
kind_number Frame = 1

-- what a number gives: the kind with this number, or, where no kind has it, that it is unknown
abbrev pub KindOf : (number : ℕ) (answer : Result Kind UnknownKind) → Type 0
KindOf number answer = MatchResult answer (λ kind. kind_number kind ≡ number) (λ _. 1 < number)
