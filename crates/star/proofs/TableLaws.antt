-- Tables that the library fills, as tables written from the front. The laws assume nothing.
use Prim.Native.Nat.{ℕ, ◌≤◌}
use native.Mathlib.Omega.{arith}
use mathlib.Core.Path.{◌≡◌, ◌∙◌, ap}
use mathlib.Core.List.{List, ◌++◌}
use lib.ListN.{length, take, drop, replicate, length-take}
use Rattle.sums.specs.Tables.{written}

-- the first m cells, which the library has filled with a number
pub filled : (m x : ℕ) (new old : List ℕ) → m ≤ length old → new ≡ replicate (length (take m old)) x → new ++ drop m old ≡ written m (replicate m x) old
unfolding written
filled m x new old room e = ap (λ t. t ++ drop m old) (e ∙ ap (λ k. replicate k x) (omega (arith, length-take m old)))
