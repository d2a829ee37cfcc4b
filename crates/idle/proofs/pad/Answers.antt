-- `idle::pad` meets its contract: the steps one after the other: the sums, the largest, what is lacking, the load, and the padding. Assumes nothing.
use native.Mathlib.Omega.{arith}
use Prim.Native.Nat.{ℕ}
use lib.ListN.{length-replicate}
use Rattle.idle.proofs.Pads.{small_demands, can_kept, loaded_can, padded_of}
use Rattle.idle.proofs.pad.Goals as goal

pub line_sums-requires : goal.line_sums-requires
line_sums-requires c = record {
  square = c.requires.square;
  demands = small_demands _ _ c.requires.small;
  room = omega (arith, length-replicate {A = ℕ} 128 0, c.requires.square.nodes);
}

pub spare_all-requires : goal.spare_all-requires
spare_all-requires c =
    loaded_can c.load.ensures c.line_sums.ensures c.largest_sum-r.ensures c.lacks.ensures c.requires c.load.auto.table
    (omega (arith, length-replicate {A = ℕ} 128 0, c.requires.square.nodes, c.line_sums.auto.sums, c.lacks.auto.lack))

pub stairs-requires : goal.stairs-requires
stairs-requires c =
    can_kept c.spare_all.auto.table c.spare_all.auto.lack c.spare_all.ensures
    (loaded_can c.load.ensures c.line_sums.ensures c.largest_sum-r.ensures c.lacks.ensures c.requires c.load.auto.table
    (omega (arith, length-replicate {A = ℕ} 128 0, c.requires.square.nodes, c.line_sums.auto.sums, c.lacks.auto.lack)))

pub returns : goal.returns
returns c = padded_of c.load.ensures c.line_sums.ensures c.largest_sum-r.ensures c.lacks.ensures c.spare_all.ensures c.stairs.ensures
