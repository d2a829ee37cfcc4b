-- What is printed for an input, by the cases of its length and of what is read. Assumes nothing.
use Prim.Native.Nat.{ℕ, ◌≤◌, ◌<◌}
use native.Mathlib.Omega.{arith}
use mathlib.Core.Path.{◌≡◌, refl, sym, ◌∙◌, ap, subst}
use mathlib.Core.Bool.{true, false}
use mathlib.Core.List.{List}
use lib.Dec.{ltb}
use lib.ListN.{length}
use Rattle.std.specs.Prelude.{Ok, Err}
use Rattle.star.specs.declared.refusals.Refusal.{Refusal}
use Rattle.star.specs.declared.refusals.Refusal.TheVariants.{TableShort}
use Rattle.star.specs.Refusals.{Verdict, Accepted, Refused, refusal_number, refusal_place, notice_of}
use Rattle.star.proofs.RefusalLaws.{fires, passes, in_numbers, never, promise_refused, promise_done}
use Rattle.pieces.specs.declared.Pieces.{Pieces}
use Rattle.pieces.specs.Pieces.{Puts, PutsSome, Answered}
use Rattle.pieces.specs.Text.{bad_input, refusal_text}
use Rattle.scenario_text.specs.declared.lines.Tables.{Tables}
use Rattle.calls.specs.declared.record.Run.{Run}
use Rattle.files.specs.declared.reading.Head.{Head}
use Rattle.files.specs.Output.{Bytes}
use Rattle.files.specs.Format.{nodes_of, entries_of}
use Rattle.files.specs.Reading.{Reading, read_verdict, read_answer}
use Rattle.calls.specs.Held.{held}
use Rattle.play.specs.Plays.{Played}
use Rattle.scenario_text.specs.Lines.{lines_text, longest_text}
use Rattle.scenario_text.specs.Outcomes.{PrintsRun, PrintsFile, print_verdict, print_notice, PrintResult}

-- ---- what is read tells the verdict
table_accepted : (v : Verdict) (file : List ℕ) {h : Head} → Ok h ≡ read_answer v file → (v ≡ Accepted) × (h.nodes ≡ nodes_of file)
unfolding read_answer
table_accepted (Ok _) file e = (refl, cc)
table_accepted (Err r) file e = cc

verdict_refused : (v : Verdict) (file : List ℕ) {r : Refusal} → Err r ≡ read_answer v file → v ≡ Refused r
unfolding read_answer
verdict_refused (Ok _) file e = cc
verdict_refused (Err s) file e = cc

same_refusal : {r s : Refusal} → Refused r ≡ Refused s → r ≡ s
same_refusal e = cc

module _ {input : List ℕ} {before after : Pieces} where
  pub puts_long : 65536 < length input → Puts before after bad_input → PutsSome (PrintsFile input) before after
  puts_long h puts = record {
    text = bad_input;
    prints = record { long = λ _. refl; refused = λ le r e. absurd (omega arith); played = λ le e. absurd (omega arith) };
    puts = puts;
  }

  -- the run of an accepted file
  pub puts_run : {n : ℕ} {run : Run} {tables : Tables} → n ≡ nodes_of input → Played input (entries_of input) (held run tables.waiting tables.posted tables.sent tables.dropped) →
      Puts before after (lines_text n tables.posted tables.sent tables.dropped tables.waiting) → PutsSome (PrintsRun input) before after
  puts_run {n} {run} {tables} hn played puts = record {
    text = lines_text n tables.posted tables.sent tables.dropped tables.waiting;
    prints = record { h = held run tables.waiting tables.posted tables.sent tables.dropped; played = played; lines = ap (λ m. lines_text m tables.posted tables.sent tables.dropped tables.waiting) hn };
    puts = puts;
  }

module _ (input : List ℕ) {read : Reading} (is : read ≡ read_answer (read_verdict input) input) where
  pub read_accepted : {h : Head} → read ≡ Ok h → read_verdict input ≡ Accepted
  read_accepted told = (table_accepted (read_verdict input) input (sym told ∙ is)).0

  pub read_nodes : {h : Head} → read ≡ Ok h → h.nodes ≡ nodes_of input
  read_nodes told = (table_accepted (read_verdict input) input (sym told ∙ is)).1

  module _ {before after : Pieces} (short : length input ≤ 65536) where
    pub puts_refused : {r : Refusal} → read ≡ Err r → Puts before after (refusal_text (refusal_number r) (refusal_place r)) → PutsSome (PrintsFile input) before after
    puts_refused {r} told puts =
        let v : read_verdict input ≡ Refused r = verdict_refused (read_verdict input) input (sym told ∙ is) in
        record {
          text = refusal_text (refusal_number r) (refusal_place r);
          prints = record {
            long = λ lt. absurd (omega arith);
            refused = λ le s e. ap (λ x. refusal_text (refusal_number x) (refusal_place x)) (same_refusal (sym v ∙ e));
            played = λ le e. absurd (never (sym v ∙ e));
          };
          puts = puts;
        }

    pub puts_played : {h : Head} → read ≡ Ok h → PutsSome (PrintsRun input) before after → PutsSome (PrintsFile input) before after
    puts_played told p = record {
      text = p.text;
      prints = record { long = λ lt. absurd (omega arith); refused = λ le r e. absurd (never (sym e ∙ read_accepted told)); played = λ le e. p.prints };
      puts = p.puts;
    }

-- ---- into bytes of any length
print_notice_lem : (lent : ℕ) → notice_of (print_verdict lent) ≡ print_notice lent
unfolding print_verdict print_notice
print_notice_lem lent = in_numbers _ _ _ refl

module _ (file : List ℕ) {text text' : List ℕ} where
  pub printed : {k : ℕ} → ltb (length text) longest_text ≡ false → Answered (PrintsFile file) text text' k → PrintResult file text text' (Bytes k)
  unfolding print_verdict
  printed long a = promise_done (passes _ long refl) (print_notice_lem (length text)) text text' refl a

  pub not_printed : ltb (length text) longest_text ≡ true → text' ≡ text → PrintResult file text text' (Err TableShort)
  unfolding print_verdict
  not_printed short same = subst (λ x. PrintResult file text x (Err TableShort)) (sym same) (promise_refused (fires _ short) (print_notice_lem (length text)) text refl)
