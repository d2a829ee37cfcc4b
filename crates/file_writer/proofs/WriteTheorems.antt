-- The theorems on writing: what is written reads back the same, and answer and bytes are a function of the input. Assumes nothing.
use Prim.Native.Nat.{ℕ}
use mathlib.Core.Path.{◌≡◌, refl, sym, ◌∙◌, ap}
use mathlib.Core.List.{List}
use Rattle.std.specs.Prelude.{Ok, Err}
use Rattle.star.specs.Refusals.{Refused}
use Rattle.star.proofs.RefusalLaws.{never}
use Rattle.files.specs.Output.{Output, Bytes}
use Rattle.file_writer.specs.Theorems.{WriteTheorems}
use Rattle.file_writer.specs.Writing.{WriteResult}
use Rattle.file_writer.proofs.RoundTripLaws.{round_trip}

one_result : (n l limit rule : ℕ) (kinds cells out out₁ out₂ : List ℕ) (r₁ r₂ : Output) → WriteResult n l limit rule kinds cells out out₁ r₁ →
    WriteResult n l limit rule kinds cells out out₂ r₂ → (r₁ ≡ r₂) × (out₁ ≡ out₂)
one_result n l limit rule kinds cells out out₁ out₂ (Ok j) (Ok k) x y =
    let a = x.accepted refl in
    let b = y.accepted refl in
    (ap Bytes (a.size ∙ sym b.size), a.bytes ∙ sym b.bytes)
one_result n l limit rule kinds cells out out₁ out₂ (Err p) (Err q) x y =
    let e : Refused p ≡ Refused q = x.answer ∙ sym y.answer in
    (cc, x.refused p refl ∙ sym (y.refused q refl))
one_result n l limit rule kinds cells out out₁ out₂ (Ok j) (Err q) x y = absurd (never (y.answer ∙ sym x.answer))
one_result n l limit rule kinds cells out out₁ out₂ (Err p) (Ok k) x y = absurd (never (x.answer ∙ sym y.answer))

pub write_theorems : WriteTheorems
write_theorems = record { back = round_trip; unique = one_result }
