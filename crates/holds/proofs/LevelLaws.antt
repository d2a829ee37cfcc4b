-- A pair still gets at least `level` slots just where its cell is at least 65,536×level, whatever it keeps. The law assumes nothing.
use mathlib.Core.List.{List}
use Prim.Native.Nat.{ℕ, ◌*◌}
use native.Mathlib.Omega.{arith}
use Rattle.at_least.specs.AtLeast.{AtLeast}
use Rattle.cells.specs.Cells.{padded_in}
use Rattle.cells.proofs.CellLaws.{padded_cell}

pub padded_at_least : {n : ℕ} {table : List ℕ} {level : ℕ} {may : List ℕ} → AtLeast n table (level * 65536) may → AtLeast n (padded_in table) level may
padded_at_least {n} {table} m = record {
  all = λ j hj. record {
    in' = λ i hi le. (m.all j hj).in' i hi (omega (arith, padded_cell n table i j));
    out = λ i hi e. omega (arith, padded_cell n table i j, (m.all j hj).out i hi e);
  };
}
