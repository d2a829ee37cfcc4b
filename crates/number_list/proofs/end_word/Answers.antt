-- `end_word` counts a word that has digits, and stores its number where the table has a cell for it: by the cases of its two tests. Assumes nothing.
use lib.ListN.{length-set}
use native.Mathlib.Omega.{arith}
use mathlib.Core.Path.{refl}
use Rattle.number_list.proofs.InputLaws.{stored_here, stored_past}
use borrow.Author.Rules.{rules}
use Rattle.number_list.proofs.end_word.Goals as goal
use Rattle.number_list.proofs.end_word.Goals.{then-count-table, else-count-table}

pub returns-then-digits-eq0 : goal.returns-then-digits-eq0
returns-then-digits-eq0 c = record { empty = λ e. (refl, refl); number = λ p numbers s. absurd (omega arith) }

pub offset_bounds-table-count : goal.offset_bounds-table-count
offset_bounds-table-count c = search rules

pub bounds-table-count : goal.bounds-table-count
bounds-table-count c = search rules

pub overflow_add-result : goal.overflow_add-result
overflow_add-result c = search rules

pub shape_of-table : goal.shape_of-table
shape_of-table c = elim c.if-count-table.branch [ then-count-table w ↦ rw w.table-is (length-set c.args.table.now c.args.count c.args.value) | else-count-table w ↦ rw w.table-is refl ]

pub returns : goal.returns
returns c = record {
  empty = λ e. absurd (omega arith);
  number = λ p numbers s.
      elim c.if-count-table.branch [
        | then-count-table w ↦ rw w.table-is (stored_here _ numbers _ _ w.if-count-table.true s)
        | else-count-table w ↦ rw w.table-is (stored_past _ numbers _ _ w.if-count-table.false s)
      ];
}
