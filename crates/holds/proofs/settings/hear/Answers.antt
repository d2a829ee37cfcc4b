-- `holds::settings::hear` meets its contract: the bytes of the destinations passed are as defined, and each lasts for h slots. Assumes nothing.
use native.Mathlib.Omega.{arith}
use mathlib.Core.Path.{◌∙◌, sym, ap}
use Rattle.holds.specs.Holds.{heard_from}
use Rattle.holds.proofs.HearLaws.{hear_step}
use Rattle.holds.proofs.settings.hear.Goals as goal

pub loop-j-preserved : goal.loop-j-preserved
loop-j-preserved c =
    let heard = c.heard_of.ensures ∙ ap (heard_from c.padded-padded.result c.kept-kept.result) (sym c.from-i.ensures) in
    hear_step c.requires (omega (arith, c.requires.outs)) c.loop-j.invariant c.loop-j-test.true c.from-i.ensures c.padded-padded.ensures.0 c.kept-kept.ensures.0 heard c.lasting_of.ensures c.min-h.ensures
