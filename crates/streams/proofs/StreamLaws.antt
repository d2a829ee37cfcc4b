-- What was read of an input, and the answer to it written out, make what a program promises; and what an error leaves, the same with a front of the answer. The laws assume nothing.
use Rattle.std.proofs.Common.{ℕ, ◌≡◌, ◌<◌, ◌≤◌, List, ◌++◌, Option, length, take, drop, arith, le_refl, ap, ◌∙◌, subst, length-take-le}
use Rattle.std.specs.Io.KnownBytes.{Consumes, IsAtEnd}
use lib.Seq.{take-append-le, take-length}
use Rattle.sums.specs.Tables.{written}
use Rattle.pieces.specs.Pieces.{Answered}
use Rattle.std.specs.declared.result.Result.{Result}
use Rattle.std.specs.declared.result.Result.TheVariants.{Ok, Err}
use Rattle.std.specs.Result.{OnErr}
use Rattle.streams.specs.Streams.{Answers}

-- the text of an answer is the bytes of the given length
answered_front : {promised : List ℕ → Type 0} {out out' : List ℕ} {k : ℕ} (a : Answered promised out out' k) → take k out' ≡ a.text
unfolding written
answered_front {out = out} {k = k} a = ap (take k) a.bytes ∙ ap (λ m. take m (a.text ++ drop (length a.text) out)) a.end ∙ take-append-le (length a.text) a.text (drop (length a.text) out) (le_refl _) ∙ take-length a.text

-- what is read, answered and written, all of it or a front
pub answers : {limit got k : ℕ} {promised : List ℕ → List ℕ → Type 0} {left left' : Option (List ℕ)} (Written : List ℕ → Type 0) (buffer : List ℕ) {out out' : List ℕ} →
    got ≤ length buffer → length buffer ≡ limit → Consumes left left' (take got buffer) → (got < length buffer → IsAtEnd left') → Answered (promised (take got buffer)) out out' k →
    Written (take k out') → Answers limit promised left left' Written
answers {got = got} Written buffer fits long reads ends a writes = record {
  input = take got buffer;
  text = a.text;
  few = omega (arith, long, length-take-le got buffer fits);
  reads = reads;
  whole = λ h. ends (omega (arith, h, long, length-take-le got buffer fits));
  prints = a.prints;
  writes = subst Written (answered_front a) writes;
}

-- what holds whatever the error is
pub on_err_any : {T E P : Type 0} (r : Result T E) → P → OnErr r P
on_err_any (Ok x) p = tt
on_err_any (Err e) p = p
