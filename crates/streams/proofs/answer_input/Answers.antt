-- The text of the answer, whose length `answer` gives, lies within the bytes lent to it, and is what is written.
use Rattle.std.proofs.Common.{rules, ◌≡◌, sym, length, length-take-le, take}
use mathlib.Core.Logic.{inl, inr}
use Rattle.std.proofs.KnownBytes.{Keeps-refl}
use Rattle.std.proofs.lemmas.Result.{on_ok_weaker, on_err_weaker}
use Rattle.std.specs.Io.KnownBytes.{Appends}
use Rattle.pieces.proofs.PieceLaws.{answered_within}
use Rattle.streams.specs.Streams.{WrittenPartly}
use Rattle.streams.proofs.StreamLaws.{answers, on_err_any}
use Rattle.streams.proofs.answer_input.Goals as goal

pub returns-in_err-got-clause-err : goal.returns-in_err-got-clause-err
returns-in_err-got-clause-err g c =
    let long : length c.read_full.new.buffer ≡ 65537 = search rules in
    on_err_any c.from_residual.result (inl (rw long at c.in_err-got.ensures.err, Keeps-refl _))

pub slice_bounds-write_full-end : goal.slice_bounds-write_full-end
slice_bounds-write_full-end g c = sym (length-take-le _ _ (answered_within c.answer-length.ensures.answered))

pub returns-clause-ok : goal.returns-clause-ok
returns-clause-ok g c =
    let was = g.W.Write.contents c.args.writer.now in
    let now = g.W.Write.contents c.write_full.new.writer in
    on_ok_weaker c.write_full.result
    (answers (Appends was now) c.read_full.new.buffer c.in_ok-got.ensures.bound.0 (search rules) c.in_ok-got.ensures.bytes c.in_ok-got.ensures.end c.answer-length.ensures.answered) c.write_full.ensures.ok

pub returns-clause-err : goal.returns-clause-err
returns-clause-err g c =
    let was = g.W.Write.contents c.args.writer.now in
    let now = g.W.Write.contents c.write_full.new.writer in
    on_err_weaker c.write_full.result
    (λ (part : WrittenPartly (take c.answer-length.result c.answer-length.new.out) was now). inr (answers (λ text. WrittenPartly text was now) c.read_full.new.buffer c.in_ok-got.ensures.bound.0 (search rules) c.in_ok-got.ensures.bytes c.in_ok-got.ensures.end c.answer-length.ensures.answered part)) c.write_full.ensures.err
