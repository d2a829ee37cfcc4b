-- The fourteen lines hold. The lines of one plan by computation, with marks for each A, and a bound for each cell where A is the only one; a demand of
-- nothing for every N and L; the run as it is played. Assumes nothing.
use mathlib.Core.Path.{refl}
use mathlib.Core.List.{[], ◌∷◌}
use Rattle.sums.specs.Sums.{sum_to}
use Rattle.sums.specs.Tables.{cell, tab, square}
use Rattle.sums.proofs.Searches.{all_below}
use Rattle.star.specs.Lines.{whole_frame, line_sum, on_line, source_on, destination_on, total, slack, excess}
use Rattle.fair.specs.Fair.{fair_kept, steps, step, uncut, taken, smaller, exceeds, numerator, modified_sum, unmodified_sum, modified, cut_line, cut_cell}
use Rattle.flow.specs.Flows.{cut}
use Rattle.flow.proofs.Check.{below?, lines?, feasible?}
use Rattle.least.specs.Least.{kept_from, kept_cell, left, longer, share, remainder, missing, before, rank, shared}
use Rattle.worked.specs.Worked.{WorkedLines}
use Rattle.worked.proofs.Marks.{by_marks}
use Rattle.worked.proofs.Only.{only_line, at_most, off_both, bound, rowOnly?, only?}
use Rattle.worked.proofs.Nothing.{nothing}
use Rattle.worked.proofs.OneNode.{one_node}

pub worked : WorkedLines
unfolding sum_to cell tab square whole_frame line_sum on_line source_on destination_on total slack excess fair_kept steps step uncut taken smaller exceeds numerator modified_sum unmodified_sum modified cut_line cut_cell cut all_below below? lines? feasible? kept_from kept_cell left longer share remainder missing before rank shared at_most off_both bound rowOnly? only?
worked = record {
  a_fair = record { keeps = refl; refuses = refl };
  a_least = only_line (record { withdraws = by_marks _ _ _ _ (0 ∷ 0 ∷ []) refl refl; keeps = refl; refuses = refl }) refl;
  b_fair = record { keeps = refl; refuses = refl };
  b_least = only_line (record { withdraws = by_marks _ _ _ _ (0 ∷ 0 ∷ []) refl refl; keeps = refl; refuses = refl }) refl;
  c = only_line (record { withdraws = by_marks _ _ _ _ (1 ∷ 0 ∷ 1 ∷ 1 ∷ []) refl refl; keeps = refl; refuses = refl }) refl;
  d = record { keeps = refl; refuses = refl };
  e = only_line (record { withdraws = by_marks _ _ _ _ (0 ∷ 0 ∷ 0 ∷ 0 ∷ []) refl refl; keeps = refl; refuses = refl }) refl;
  f = record { keeps = refl; refuses = refl };
  g = only_line (record { withdraws = by_marks _ _ _ _ (1 ∷ 0 ∷ 0 ∷ 1 ∷ 1 ∷ 1 ∷ []) refl refl; keeps = refl; refuses = refl }) refl;
  h = record { keeps = refl; refuses = refl };
  i = only_line (record { withdraws = by_marks _ _ _ _ (0 ∷ 0 ∷ 0 ∷ 0 ∷ 0 ∷ 0 ∷ []) refl refl; keeps = refl; refuses = refl }) refl;
  j = record { keeps = refl; refuses = refl };
  k_level = record { withdraws = by_marks _ _ _ _ (0 ∷ 0 ∷ 0 ∷ 0 ∷ []) refl refl; keeps = refl; refuses = refl };
  k_crossed = record { withdraws = by_marks _ _ _ _ (0 ∷ 0 ∷ 0 ∷ 0 ∷ []) refl refl; keeps = refl; refuses = refl };
  l = only_line (record { withdraws = by_marks _ _ _ _ (0 ∷ 0 ∷ []) refl refl; keeps = refl; refuses = refl }) refl;
  m = nothing;
  n = one_node;
}
