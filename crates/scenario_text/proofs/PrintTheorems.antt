-- The theorems on printed texts: what is held after a file is the same pair by pair under the fair rule, and in what was posted under either; the lines
-- say nothing else. Assumes nothing.
use Prim.Native.Nat.{ℕ, ◌*◌, ◌≤◌}
use mathlib.Core.Path.{◌≡◌, refl, sym, ◌∙◌}
use mathlib.Core.List.{List}
use lib.ListN.{length}
use Rattle.std.specs.Prelude.{Ok, Err}
use borrow.Author.Tests.{le-ltb}
use Rattle.sums.proofs.Cases.{by_lt}
use Rattle.star.specs.Refusals.{Verdict}
use Rattle.star.proofs.AlikeLaws.{alike_at}
use Rattle.star.proofs.RefusalLaws.{passes}
use Rattle.pieces.proofs.PieceLaws.{join_ext, answered_same}
use Rattle.calls.specs.Held.{Held, HeldAlike}
use Rattle.files.specs.Format.{nodes_of, rule_of, entries_of}
use Rattle.files.specs.Reading.{read_verdict}
use Rattle.play.proofs.PlayTheorems.{play_theorems}
use Rattle.scenario_text.specs.Lines.{text_at, lines_text, held_text, longest_text}
use Rattle.scenario_text.specs.Outcomes.{PrintsFile, print_verdict}
use Rattle.scenario_text.specs.Theorems.{PrintsAgree, PrintTheorems}

lines_same : (n : ℕ) (h k : Held) → HeldAlike n h k → held_text n h ≡ held_text n k
unfolding lines_text text_at
lines_same n h k s =
    join_ext (n * n) _ _ (λ c lt. rw (alike_at s.posted c lt, alike_at s.sent c lt, alike_at s.dropped c lt, alike_at s.waiting c lt) refl)

prints_agree : (input text₁ text₂ : List ℕ) → PrintsFile input text₁ → PrintsFile input text₂ → PrintsAgree input text₁ text₂
prints_agree input text₁ text₂ p q = record {
  long = λ long. p.long long ∙ sym (q.long long);
  refused = λ r fits e. p.refused fits r e ∙ sym (q.refused fits r e);
  fair = λ fits e rule.
      let a = p.played fits e in
      let b = q.played fits e in
      a.lines ∙ lines_same (nodes_of input) a.h b.h (play_theorems.unique input (entries_of input) a.h b.h rule a.played b.played) ∙ sym b.lines;
  least = λ fits e.
      let a = p.played fits e in
      let b = q.played fits e in
      record {
        h = a.h;
        k = b.h;
        one = a.played;
        other = b.played;
        lines_one = a.lines;
        lines_other = b.lines;
        posted = play_theorems.posted input (entries_of input) a.h b.h a.played b.played;
      };
}

-- by its length and its verdict
agree_certain : (input text₁ text₂ : List ℕ) → PrintsAgree input text₁ text₂ → rule_of input ≡ 0 → text₁ ≡ text₂
agree_certain input text₁ text₂ a fair = by_lt 65536 (length input) a.long (λ fits. go fits (read_verdict input) refl)
  where
    go : length input ≤ 65536 → (v : Verdict) → read_verdict input ≡ v → text₁ ≡ text₂
    go fits (Err r) e = a.refused r fits e
    go fits (Ok _) e = a.fair fits e fair

pub print_theorems : PrintTheorems
unfolding print_verdict
print_theorems = record {
  unique = prints_agree;
  certain = λ input text₁ text₂ p q. agree_certain input text₁ text₂ (prints_agree input text₁ text₂ p q);
  bytes = λ input out out₁ out₂ r₁ r₂ a b same. answered_same a b same;
  accepts = λ file text text' r p enough. p.answer ∙ sym (passes _ (le-ltb (length text) longest_text enough) refl);
}
