-- What follows from the promise of `write_file`, as statements; their proofs are in proofs/WriteTheorems.antt.
use Rattle.std.specs.Prelude.{ℕ, ◌+◌, ◌*◌, ◌<◌, ◌≡◌, List, length, get_or, take}
use Rattle.star.specs.Refusals.{Accepted}
use Rattle.files.specs.Format.{two, kind_of, place_of, scenario_of}
use Rattle.files.specs.Output.{Output, Bytes}
use Rattle.files.specs.Reading.{Table, read_verdict, read_answer}
use Rattle.file_writer.specs.Bytes.{posts_to, scenario_from}
use Rattle.file_writer.specs.Writing.{WriteResult}

-- a file is accepted, and N, L, B, the rule, kinds and cells are those of the tables
pub record ReadsBack (n l limit rule : ℕ) (kinds cells file : List ℕ) : Type 0 where
  pub accepted : read_verdict file ≡ Accepted
  pub answered : read_answer (read_verdict file) file ≡ Table n l limit rule (length kinds)
  pub same_kinds : (e : ℕ) → e < length kinds → kind_of file e ≡ get_or kinds e 0
  pub same_cells : (e c : ℕ) → e < length kinds → get_or kinds e 0 ≡ 0 → c < n * n → two file (place_of file e + 2 * c) ≡ get_or cells (posts_to kinds e * (n * n) + c) 0
  pub same_scenario : scenario_of file ≡ scenario_from n l limit rule kinds cells

pub record WriteTheorems : Type 0 where
  -- what is written, cut to its length, reads back the same
  pub back : (n l limit rule : ℕ) (kinds cells out out' : List ℕ) (size : ℕ) → WriteResult n l limit rule kinds cells out out' (Bytes size) →
      ReadsBack n l limit rule kinds cells (take size out')
  -- two results on the same input are one
  pub unique : (n l limit rule : ℕ) (kinds cells out out₁ out₂ : List ℕ) (r₁ r₂ : Output) → WriteResult n l limit rule kinds cells out out₁ r₁ →
      WriteResult n l limit rule kinds cells out out₂ r₂ → (r₁ ≡ r₂) × (out₁ ≡ out₂)
