-- The bytes that a text in quotes stands for: for each character the byte with its number, as 97 for a.
use Rattle.std.specs.Prelude.{ℕ, List, [], ◌∷◌}
use Prim.Native.Char.{code}
use Prim.Native.String.{String, [] as empty, ◌∷◌ as ◌then◌}

abbrev pub bytes : String → List ℕ
bytes empty = []
bytes (c then text) = code c ∷ bytes text
