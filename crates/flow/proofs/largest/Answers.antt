-- `flow::largest` meets its contract: the worker writes the first cells alone, and only they matter. Assumes nothing.
use mathlib.Core.Path.{◌∙◌}
use lib.Seq.{length-take-le, drop_at}
use Rattle.flow.proofs.Ends.{fronts}
use Rattle.flow.proofs.largest.Goals as goal

pub returns : goal.returns
returns c = let said = c.largest_on in
    let args = c.args in
    let asked = c.requires in
    let headrooms = said.auto.headroom ∙ length-take-le _ args.headroom.now asked.ceilings in
    let cells = said.auto.a ∙ length-take-le _ args.a.now asked.cells.cells in
    let lines = said.auto.marks ∙ length-take-le _ args.marks.now asked.lines in
    fronts _ _ _ said.new.a said.new.headroom said.new.marks _ _ _ cells headrooms lines said.ensures _ _ (drop_at said.new.a _ _ cells) (drop_at said.new.headroom _ _ headrooms) (drop_at said.new.marks _ _ lines)
