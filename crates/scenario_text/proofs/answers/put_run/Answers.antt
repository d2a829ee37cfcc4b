-- `put_run` meets its contract: the file is played on tables for 64 nodes, and the lines are those of what is held then. Assumes nothing.
use native.Mathlib.Omega.{arith}
use Rattle.files.proofs.ReadLaws.{accepted_sound}
use Rattle.scenario_text.proofs.answers.put_run.Goals as goal

pub put_lines-requires-clause-nodes : goal.put_lines-requires-clause-nodes
put_lines-requires-clause-nodes c =
    let sizes = (accepted_sound c.args.file.now c.requires.accepted).ranges.sizes in
    (omega (arith, sizes.some_nodes, c.requires.nodes), omega (arith, sizes.nodes, c.requires.nodes))
