-- `idle::load` meets its contract: each of the N² cells is multiplied once. Assumes nothing.
use Rattle.std.proofs.Common.{◌*◌, ◌<◌, ◌∙◌, arith, length-take-le, ap}
use Rattle.std.proofs.lemmas.List.{get_or-take, get_or_append_left}
use Rattle.idle.proofs.Pads.{loaded_of, small_place}
use Rattle.idle.proofs.load.Goals as goal

pub overflow_mul-cell : goal.overflow_mul-cell
overflow_mul-cell c =
    let cells = length-take-le (c.args.n * c.args.n) c.args.table.now c.requires.0.cells in
    let lt : c.loop-cell.cell-index < c.args.n * c.args.n = omega arith in
    omega (
      arith,
      c.loop-cell.invariant.rest c.loop-cell.cell-index (omega arith),
      get_or-take (c.args.n * c.args.n) c.args.table.now c.loop-cell.cell-index 0 lt,
      small_place c.requires.1 c.loop-cell.cell-index lt,
    )

pub returns : goal.returns
returns c =
    let cells = length-take-le (c.args.n * c.args.n) c.args.table.now c.requires.0.cells in
    loaded_of c.requires.1
    (λ q lt.
    get_or_append_left c.loop-cell.cell-items _ 0 q (omega arith)
    ∙ c.loop-cell.invariant.done q (omega arith)
    ∙ ap (λ x. x * 65537) (get_or-take (c.args.n * c.args.n) c.args.table.now q 0 lt))
