-- `changes::change` meets its contract: by the cases of the definition. Assumes nothing.
use mathlib.Core.Path.{◌∙◌}
use Rattle.changes.proofs.ChangeLaws.{change_start, change_after}
use Rattle.changes.proofs.change.Goals as goal
use Rattle.changes.proofs.change.Goals.{then-t-gt0, else-t-gt0}

pub returns : goal.returns
returns c =
    elim c.if-t-gt0.branch [
      | then-t-gt0 w ↦ c.from.ensures ∙ change_after _ _ _ _ w.if-t-gt0.true (w.from-is ∙ w.differs.ensures)
      | else-t-gt0 w ↦ c.from.ensures ∙ change_start _ _ _ _ w.if-t-gt0.false w.from-is
    ]
