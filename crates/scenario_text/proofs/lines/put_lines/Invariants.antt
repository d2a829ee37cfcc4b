use Prim.Native.Nat.{◌≤◌, ◌+◌, ◌*◌}
use Rattle.pieces.specs.Pieces.{Puts, join_to}
use Rattle.scenario_text.specs.Lines.{text_at}
use Rattle.scenario_text.proofs.lines.put_lines.Given as goal

abbrev pub invariant-loop-pair : goal.invariant-loop-pair
invariant-loop-pair l = record {
  puts : Puts l.initial.text l.text (join_to l.pair (text_at l.n l.tables.posted l.tables.sent l.tables.dropped l.tables.waiting));
  short : l.text.at ≤ l.initial.text.at + 126 * l.pair;
}
