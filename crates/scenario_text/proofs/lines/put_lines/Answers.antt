-- `put_lines` puts the text of a pair each turn. Assumes nothing.
use Prim.Native.Nat.{◌*◌}
use native.Mathlib.Omega.{arith}
use mathlib.Core.Path.{◌≡◌}
use Rattle.pieces.proofs.PieceLaws.{puts_none, puts_more, join_none, join_more}
use Rattle.scenario_text.specs.Lines.{text_at, lines_text}
use Rattle.scenario_text.proofs.lines.put_lines.Goals as goal

pub loop-pair-init : goal.loop-pair-init
loop-pair-init c =
    let t = c.args.tables.now in
    record { puts = rw (join_none (text_at c.args.n t.posted t.sent t.dropped t.waiting)) (puts_none _); short = omega arith }

pub loop-pair-preserved : goal.loop-pair-preserved
unfolding text_at
loop-pair-preserved c =
    let t = c.args.tables.now in
    record {
      puts = rw (join_more (text_at c.args.n t.posted t.sent t.dropped t.waiting)) (puts_more c.loop-pair.invariant.puts c.put_pair.ensures.puts);
      short = omega (arith, c.loop-pair.invariant.short, c.put_pair.ensures.short);
    }

pub returns-clause-puts : goal.returns-clause-puts
unfolding lines_text
returns-clause-puts c = let done : c.loop-pair.pair ≡ c.args.n * c.args.n = omega arith in rw done at c.loop-pair.invariant.puts
