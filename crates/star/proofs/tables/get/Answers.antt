-- `star::tables::get` meets its contract: the place of a pair is below N×N. Assumes nothing.
use borrow.Author.Rules.{rules}
use Rattle.sums.specs.Tables.{cell}
use Rattle.star.proofs.tables.get.Goals as goal

pub returns : goal.returns
unfolding cell
returns c = search rules
