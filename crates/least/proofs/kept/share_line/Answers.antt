-- `share_line` meets its contract: the line is divided and given what `divide` found. Assumes nothing.
use native.Mathlib.Omega.{arith}
use Rattle.least.proofs.Rewritings.{rewritten_same}
use Rattle.least.proofs.Shares.{share_most, divided_shares}
use Rattle.least.proofs.kept.share_line.Goals as goal

pub give_shares-requires : goal.give_shares-requires
give_shares-requires c = let line = c.requires.line in
    record { square = (line.square, line.line); below = λ t h. omega (arith, c.divide.ensures.each t h, share_most line t h) }

pub returns : goal.returns
returns c = rewritten_same _ _ _ _ _ _ (λ t h. divided_shares _ _ _ _ _ _ _ c.requires.line.square.nodes c.divide.ensures t h) c.give_shares.ensures
