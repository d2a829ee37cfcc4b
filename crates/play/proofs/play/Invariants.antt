use Rattle.calls.specs.Held.{held}
use Rattle.play.specs.Plays.{CanPlay}
use Rattle.play.proofs.play.Given as goal

-- the entries passed are played
abbrev pub invariant-loop-e : goal.invariant-loop-e
invariant-loop-e l = CanPlay l.file l.e (held l.run l.waiting l.posted l.sent l.dropped)
