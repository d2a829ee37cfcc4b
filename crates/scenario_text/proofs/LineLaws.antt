-- The printed lines: put piece by piece, and how long they are. Assumes nothing.
use Prim.Native.Nat.{ℕ}
use mathlib.Core.Path.{◌≡◌}
use mathlib.Core.List.{[]}
use borrow.Author.Tests.{eq-eqb, ne_eqb}
use Rattle.scenario_text.specs.Lines.{line_text, pair_text}

-- a pair has a line where anything was posted
module _ (n pair posted sent dropped waiting : ℕ) where
  pub pair_none : posted ≡ 0 → pair_text n pair posted sent dropped waiting ≡ []
  unfolding pair_text
  pair_none e = simp (eq-eqb posted 0 e)

  pub pair_some : (posted ≡ 0 → ⊥) → pair_text n pair posted sent dropped waiting ≡ line_text n pair posted sent dropped waiting
  unfolding pair_text
  pair_some e = simp (ne_eqb posted 0 e)
