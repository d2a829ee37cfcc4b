-- A further piece: what the writer took of the rest comes behind what it got before.
use Rattle.std.proofs.Common.{rules, ◌++◌, take, sym, ap, ◌∙◌, subst}
use Rattle.std.proofs.lemmas.List.{take_rest}
use Rattle.std.specs.Io.KnownBytes.{Appends}
use Rattle.std.proofs.KnownBytes.{Appends-trans}
use lib.Seq.{take-add}
use Rattle.streams.proofs.write_full.Goals as goal

pub loop-sent-preserved : goal.loop-sent-preserved
loop-sent-preserved g c =
    let bytes = c.args.bytes.now in
    let sent = c.loop-sent.sent in
    let n = c.in_ok-taken.taken in
    let joined = take-add sent n bytes ∙ ap (λ l. take sent bytes ++ take n l) (sym (take_rest bytes sent)) in
    (search rules, subst (Appends _ _) (sym joined) (Appends-trans _ _ _ _ _ c.loop-sent.invariant.1 c.in_ok-taken.ensures.bytes))
