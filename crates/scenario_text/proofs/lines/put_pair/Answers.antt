-- `put_pair` meets its contract, by whether anything was posted. Assumes nothing.
use lib.ListN.{get_or}
use Rattle.pieces.proofs.PieceLaws.{puts_none}
use Rattle.scenario_text.proofs.LineLaws.{pair_none, pair_some}
use Rattle.scenario_text.proofs.lines.put_pair.Goals as goal

pub returns-then-tables-pair-eq0-clause-puts : goal.returns-then-tables-pair-eq0-clause-puts
returns-then-tables-pair-eq0-clause-puts c =
    let t = c.args.tables.now in
    rw (pair_none c.args.n c.args.pair (get_or t.posted c.args.pair 0) (get_or t.sent c.args.pair 0) (get_or t.dropped c.args.pair 0) (get_or t.waiting c.args.pair 0) c.if-tables-pair-eq0.true) (puts_none _)

pub returns-clause-puts : goal.returns-clause-puts
returns-clause-puts c =
    let t = c.args.tables.now in
    rw (pair_some c.args.n c.args.pair (get_or t.posted c.args.pair 0) (get_or t.sent c.args.pair 0) (get_or t.dropped c.args.pair 0) (get_or t.waiting c.args.pair 0) c.if-tables-pair-eq0.false) c.put_line.ensures.puts
