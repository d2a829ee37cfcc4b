-- A further piece: what it put behind the bytes before is what the reader lost. After an error the bytes before it are what was read.
use Rattle.std.proofs.Common.{◌≡◌, ℕ, ◌+◌, ◌-◌, ◌≤◌, List, ◌++◌, rules, arith, length, take, slice_range, sym, ap, ◌∙◌, subst, le_refl, drop_at, length-take-le}
use Rattle.std.proofs.lemmas.Slice.{take-put_mid_below}
use Rattle.std.specs.Io.KnownBytes.{Consumes}
use Rattle.std.proofs.KnownBytes.{Consumes-trans, Consumes-kept}
use borrow.Rule.Slice.PartMut.{put_mid, post_of}
use lib.Seq.{take-add, take-append-le}
use Rattle.streams.proofs.StreamLaws.{on_err_any}
use Rattle.streams.proofs.read_full.Goals as goal

take_split : (a b : ℕ) (old new : List ℕ) → a ≤ b → take a new ≡ take a old → take a old ++ slice_range new a b ≡ take b new
take_split a b old new h front =
    let same : a + (b - a) ≡ b = omega arith in
    ap (λ l. l ++ slice_range new a b) (sym front) ∙ sym (take-add a (b - a) new) ∙ ap (λ n. take n new) same

slice_range-put_mid : (a k n : ℕ) (xs ys : List ℕ) → a ≤ length xs → n ≤ length ys → slice_range (put_mid a k xs ys) a (a + n) ≡ take n ys
slice_range-put_mid a k n xs ys within fits =
    let same : (a + n) - a ≡ n = omega arith in
    let after = post_of a k xs in
    ap (take ((a + n) - a)) (drop_at (take a xs) (ys ++ after) a (length-take-le a xs within)) ∙ ap (λ m. take m (ys ++ after)) same ∙ take-append-le n ys after fits

pub loop-got-preserved : goal.loop-got-preserved
loop-got-preserved g c =
    let from = c.loop-got.got in
    let room = length c.loop-got.buffer - from in
    let within = c.loop-got.invariant.1 in
    let part = slice_range-put_mid from room c.in_ok-count.count c.loop-got.buffer c.read.new.buf within c.in_ok-count.ensures.bound.0 in
    let joined = take_split from (from + c.in_ok-count.count) c.loop-got.buffer (put_mid from room c.loop-got.buffer c.read.new.buf) (omega arith) (take-put_mid_below _ _ _ _ _ (le_refl _) within) in
    (search rules, search rules, subst (Consumes _ _) (ap (λ l. take from c.loop-got.buffer ++ l) (sym part) ∙ joined) (Consumes-trans _ _ _ _ _ c.loop-got.invariant.2 c.in_ok-count.ensures.bytes.0))

pub returns-in_err-count-clause-err : goal.returns-in_err-count-clause-err
returns-in_err-count-clause-err g c =
    let buffer = c.loop-got.buffer in
    let got = c.loop-got.got in
    let same : length (put_mid got (length buffer - got) buffer c.read.new.buf) ≡ length buffer = search rules in
    on_err_any c.from_residual.result (record {
      bytes = take got buffer;
      few = omega (arith, same, length-take-le got buffer c.loop-got.invariant.1);
      reads = Consumes-kept _ _ _ _ c.loop-got.invariant.2 c.in_err-count.ensures.bytes;
    })
