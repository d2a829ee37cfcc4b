-- `write_file` meets its contract: nothing is written after a refusal; else sizes, entries and cells one after the other are the file. Assumes nothing.
use Prim.Native.Nat.{◌*◌}
use native.Mathlib.Omega.{arith}
use mathlib.Core.Path.{◌≡◌, sym, ◌∙◌, ap}
use borrow.Author.Rules.{rules}
use lib.ListN.{length, take}
use lib.Seq.{length-take-le}
use Rattle.std.proofs.Common.{get_or-take}
use Rattle.star.proofs.RefusalLaws.{promise_refused, raised}
use Rattle.files.specs.Output.{output_verdict}
use Rattle.file_writer.specs.Bytes.{cells_in}
use Rattle.file_writer.proofs.ByteLaws.{length_sizes, length_entries}
use Rattle.file_writer.proofs.WriteLaws.{CanWrite, can_write, write_notice_lem, write_fits, write_done}
use Rattle.file_writer.proofs.writing.write_file.Goals as goal
use Rattle.file_writer.proofs.writing.write_file.Goals.{After-count_posts}

pub returns-in_err-write_verdict : goal.returns-in_err-write_verdict
returns-in_err-write_verdict c =
    let is = raised _ c.from_residual.ensures.1 in
    promise_refused (ap output_verdict is ∙ c.in_err-write_verdict.ensures) (write_notice_lem _ _ _ _ _ _ _) _ (ap output_verdict is)

-- what is known once the verdict has passed
can : (c : After-count_posts) → CanWrite c.args.nodes c.args.slots c.args.limit c.args.rule c.args.kinds.now c.args.cells.now (length c.args.out.now)
can c = can_write _ _ _ _ _ _ _ (sym c.in_ok-write_verdict.ensures)

count : (c : After-count_posts) → c.count_posts.result * (c.args.nodes * c.args.nodes) ≡ cells_in c.args.nodes c.args.kinds.now
count c = ap (λ p. p * (c.args.nodes * c.args.nodes)) c.count_posts.ensures

some : (c : After-count_posts) → length (take (c.count_posts.result * (c.args.nodes * c.args.nodes)) c.args.cells.now) ≡ c.count_posts.result * (c.args.nodes * c.args.nodes)
some c = length-take-le _ c.args.cells.now (omega (arith, (can c).there, count c))

pub put_entries-requires-clause-few : goal.put_entries-requires-clause-few
put_entries-requires-clause-few c = let may = can (goal.at.put_entries-requires-clause-few c).After-count_posts in (may.ranges.sizes.nodes, may.few)

pub put_entries-requires-clause-room : goal.put_entries-requires-clause-room
put_entries-requires-clause-room c =
    let args = c.args in
    omega (arith, (can (goal.at.put_entries-requires-clause-room c).After-count_posts).fits, c.new-file.ensures.start, ap length c.new-file.ensures.bytes, c.put_sizes.ensures, length_sizes args.nodes args.slots args.limit args.rule (length args.kinds.now))

pub put_cells-requires-clause-small : goal.put_cells-requires-clause-small
put_cells-requires-clause-small c k h =
    let at = (goal.at.put_cells-requires-clause-small c).After-count_posts in
    rw (get_or-take (c.count_posts.result * (c.args.nodes * c.args.nodes)) c.args.cells.now k 0 (omega (arith, h, some at))) (omega (arith, (can at).low k (omega (arith, h, some at, count at))))

pub put_cells-requires-clause-room : goal.put_cells-requires-clause-room
put_cells-requires-clause-room c =
    let args = c.args in
    let at = (goal.at.put_cells-requires-clause-room c).After-count_posts in
    omega (
      arith,
      (can at).fits,
      count at,
      some at,
      c.new-file.ensures.start,
      ap length c.new-file.ensures.bytes,
      c.put_sizes.ensures,
      length_sizes args.nodes args.slots args.limit args.rule (length args.kinds.now),
      c.put_entries.ensures,
      length_entries args.nodes args.kinds.now (length args.kinds.now),
    )

pub overflow_cast-result : goal.overflow_cast-result
overflow_cast-result c =
    let due = sym c.in_ok-write_verdict.ensures in
    let end = write_fits _ _ _ _ _ _ due (count (goal.at.overflow_cast-result c).After-count_posts) c.new-file.ensures.bytes c.new-file.ensures.start c.put_sizes.ensures c.put_entries.ensures c.put_cells.ensures in
    omega (arith, c.length.ensures, end)

pub returns : goal.returns
returns c =
    let due = sym c.in_ok-write_verdict.ensures in
    rw c.length.ensures
    (write_done _ _ _ _ _ _ due (count (goal.at.returns c).After-count_posts) c.new-file.ensures.bytes c.new-file.ensures.start c.put_sizes.ensures c.put_entries.ensures c.put_cells.ensures (search rules))
