-- `read_cells` meets its contract: the cells passed are written from the front, each of two bytes. Assumes nothing.
use Prim.Native.Nat.{ℕ, ◌≤◌, ◌+◌, ◌*◌}
use native.Mathlib.Omega.{arith}
use borrow.Author.Count.{below_more}
use Rattle.sums.proofs.Fills.{filled_none, filled_more, filled_all}
use Rattle.files.specs.Format.{two}
use Rattle.play.proofs.read_cells.Goals as goal

pub loop-c-init : goal.loop-c-init
loop-c-init c = (filled_none _ _, λ k h. absurd (omega arith))

pub loop-c-preserved : goal.loop-c-preserved
loop-c-preserved c = (filled_more _ c.loop-c.invariant.0 (omega (arith, c.requires.0, c.loop-c-test.true)) c.two.ensures.0, λ k h. below_more (λ (k : ℕ). two c.args.file.now (c.args.at + 2 * k) ≤ 65535) _ c.loop-c.invariant.1 (omega (arith, c.two.ensures)) k (omega arith))

pub returns : goal.returns
returns c = (filled_all c.args.cells c.loop-c.invariant.0 (omega arith), λ k h. c.loop-c.invariant.1 k (omega arith))
