-- The list read word by word: what each byte does to the word at hand, and what is read when the input has come to its end. A word that is no
-- number stays one however it goes on, so the first bad byte decides. The laws assume nothing.
use Prim.Native.Nat.{ℕ, ◌+◌, ◌-◌, ◌*◌, ◌^◌, ◌≤◌, ◌<◌}
use native.Mathlib.Omega.{arith}
use native.Mathlib.Nat.{mul-le-mul_right, pow-le-pow_right, pow-suc}
use native.Mathlib.Numerals.{add-one}
use mathlib.Core.Path.{◌≡◌, refl, sym, ◌∙◌, ap}
use mathlib.Core.Bool.{Bool, true, false, ◌&&◌, false≢true}
use mathlib.Core.List.{List, [], ◌∷◌, ◌++◌, append_assoc, append-nil}
use mathlib.Core.Option.{Option, none, some}
use lib.Dec.{leb}
use lib.ListN.{length, get_or, drop, set, length-append, length-set, drop_of_length-le}
use lib.Seq.{drop-cons, take-nil, take_all, take-append-le, take-suc-set}
use borrow.Author.Tests.{leb-true, leb-false, le-leb, lt-leb, ne_eqb}
use Rattle.number_list.specs.Input.{parts, is_digit, all_digits, is_number, value_from, words_from, after, numbers_of, list_of}
use Rattle.number_list.specs.Reads.{Stored, Ended, Holds}
use Rattle.sums.proofs.Cases.{by_lt}
use Rattle.sums.proofs.Searches.{both_first, both_second}

-- ---- bytes
pub digit_low : (b : ℕ) → is_digit b ≡ true → 48 ≤ b
digit_low b e = leb-true 48 b (both_first (leb 48 b) (leb b 57) e)

pub digit_high : (b : ℕ) → is_digit b ≡ true → b ≤ 57
digit_high b e = leb-true b 57 (both_second (leb 48 b) (leb b 57) e)

-- a digit parts nothing
digit_parts : (b : ℕ) → is_digit b ≡ true → parts b ≡ false
digit_parts b e = rw (ne_eqb b 32 (λ q. omega (arith, digit_low b e)), ne_eqb b 10 (λ q. omega (arith, digit_low b e)))

-- ---- words
digits_more : (word : List ℕ) (b : ℕ) → all_digits word ≡ true → is_digit b ≡ true → all_digits (word ++ (b ∷ [])) ≡ true
unfolding all_digits
digits_more [] b all e = e
digits_more (x ∷ word) b all e = rw (digits_more word b (both_first (all_digits word) (is_digit x) all) e, both_second (all_digits word) (is_digit x) all)

-- a byte that is no digit spoils a word for good
digits_spoilt : (word : List ℕ) (b : ℕ) → is_digit b ≡ false → all_digits (word ++ (b ∷ [])) ≡ false
unfolding all_digits
digits_spoilt [] b e = e
digits_spoilt (x ∷ word) b e = rw (digits_spoilt word b e)

and_false : (a : Bool) → (a && false) ≡ false
and_false true = refl
and_false false = refl

digits_stay : (word : List ℕ) (b : ℕ) → all_digits word ≡ false → all_digits (word ++ (b ∷ [])) ≡ false
unfolding all_digits
digits_stay [] b e = absurd (false≢true (sym e))
digits_stay (x ∷ word) b e = go (all_digits word) refl e (digits_stay word b)
  where
    go : (t : Bool) → all_digits word ≡ t → (t && is_digit x) ≡ false → (all_digits word ≡ false → all_digits (word ++ (b ∷ [])) ≡ false) → (all_digits (word ++ (b ∷ [])) && is_digit x) ≡ false
    go false q h rest = rw (rest q)
    go true q h rest = rw h (and_false (all_digits (word ++ (b ∷ []))))

length_more : (word : List ℕ) (b : ℕ) → length (word ++ (b ∷ [])) ≡ length word + 1
length_more word b = length-append word (b ∷ [])

is_number_lem : (word : List ℕ) → length word ≤ 9 → all_digits word ≡ true → is_number word ≡ true
unfolding is_number
is_number_lem word few all = rw (le-leb (length word) 9 few, all)

too_long : (word : List ℕ) → 9 < length word → is_number word ≡ false
unfolding is_number
too_long word many = rw (lt-leb (length word) 9 many)

not_digits : (word : List ℕ) → all_digits word ≡ false → is_number word ≡ false
unfolding is_number
not_digits word e = rw e (and_false (leb (length word) 9))

-- a word that is no number stays none
number_stay : (word : List ℕ) (b : ℕ) → is_number word ≡ false → is_number (word ++ (b ∷ [])) ≡ false
unfolding is_number
number_stay word b e = go (leb (length word) 9) refl e
  where
    go : (t : Bool) → leb (length word) 9 ≡ t → (t && all_digits word) ≡ false → is_number (word ++ (b ∷ [])) ≡ false
    go true q h = not_digits (word ++ (b ∷ [])) (digits_stay word b h)
    go false q h = too_long (word ++ (b ∷ [])) (omega (arith, length_more word b, leb-false (length word) 9 q))

no_number : (word : List ℕ) (words : List (List ℕ)) → is_number word ≡ false → numbers_of (word ∷ words) ≡ none
unfolding numbers_of is_number all_digits
no_number [] words e = absurd (false≢true (sym e))
no_number (b ∷ word) words e = rw (e, numbers_of)

a_number : (word : List ℕ) (words : List (List ℕ)) → 0 < length word → is_number word ≡ true → numbers_of (word ∷ words) ≡ after (value_from 0 word ∷ []) (numbers_of words)
unfolding numbers_of
a_number [] words p e = absurd (omega arith)
a_number (b ∷ word) words p e = rw (e, numbers_of)

no_word : (word : List ℕ) (words : List (List ℕ)) → length word ≡ 0 → numbers_of (word ∷ words) ≡ numbers_of words
unfolding numbers_of
no_word [] words e = refl
no_word (b ∷ word) words e = absurd (omega arith)

words_part : (word input : List ℕ) (b : ℕ) → parts b ≡ true → words_from word (b ∷ input) ≡ word ∷ words_from [] input
unfolding words_from
words_part word input b e = rw (e, words_from)

words_more : (word input : List ℕ) (b : ℕ) → parts b ≡ false → words_from word (b ∷ input) ≡ words_from (word ++ (b ∷ [])) input
unfolding words_from
words_more word input b e = rw (e, words_from)

-- a word that is no number spoils the list
spoilt : (word input : List ℕ) → is_number word ≡ false → numbers_of (words_from word input) ≡ none
unfolding words_from
spoilt word [] e = no_number word [] e
spoilt word (b ∷ input) e = go (parts b) refl (spoilt (word ++ (b ∷ [])) input (number_stay word b e))
  where
    go : (t : Bool) → parts b ≡ t → numbers_of (words_from (word ++ (b ∷ [])) input) ≡ none → numbers_of (words_from word (b ∷ input)) ≡ none
    go true q rest = rw (words_part word input b q) (no_number word (words_from [] input) e)
    go false q rest = rw (words_more word input b q) rest

-- ---- values
value_more : (v : ℕ) (word : List ℕ) (b : ℕ) → value_from v (word ++ (b ∷ [])) ≡ value_from v word * 10 + (b - 48)
unfolding value_from
value_more v [] b = refl
value_more v (x ∷ word) b = value_more (v * 10 + (x - 48)) word b

value_lt : (v : ℕ) (word : List ℕ) → all_digits word ≡ true → value_from v word < (v + 1) * 10 ^ length word
unfolding value_from all_digits
value_lt v [] all = omega arith
value_lt v (x ∷ word) all =
    let digit : is_digit x ≡ true = both_second (all_digits word) (is_digit x) all in
    let low : value_from (v * 10 + (x - 48)) word < (v * 10 + (x - 48) + 1) * 10 ^ length word = value_lt (v * 10 + (x - 48)) word (both_first (all_digits word) (is_digit x) all) in
    let most : (v * 10 + (x - 48) + 1) * 10 ^ length word ≤ ((v + 1) * 10) * 10 ^ length word = mul-le-mul_right (10 ^ length word) (omega (arith, digit_low x digit, digit_high x digit)) in
    rw (pow-suc 10 (length word)) (omega arith)

-- fewer than nine digits leave space for one more
value_fits : (word : List ℕ) → all_digits word ≡ true → length word < 9 → value_from 0 word < 100000000
value_fits word all few =
    let most : 10 ^ length word ≤ 10 ^ 8 = pow-le-pow_right {n = 10} (omega arith) {i = length word} {j = 8} (omega arith) in
    omega (arith, value_lt 0 word all)

-- ---- numbers in a table
stored_none : (table : List ℕ) → Stored table 0 []
stored_none table = record { counted = refl; held = take-nil (length table) }

-- one number more, where the table has a cell for it ..
pub stored_here : (table numbers : List ℕ) (count value : ℕ) → count < length table → Stored table count numbers → Stored (set table count value) (count + 1) (numbers ++ (value ∷ []))
stored_here table numbers count value fits s = record {
  counted = omega (arith, s.counted, length_more numbers value);
  held =
      take_all (length (set table count value)) (numbers ++ (value ∷ [])) (omega (arith, s.counted, length_more numbers value, length-set table count value))
      ∙ rw (add-one, take-suc-set table count value fits) (ap (λ l. l ++ (value ∷ [])) (sym (take_all (length table) numbers (omega (arith, s.counted))) ∙ s.held));
}

-- .. and where it has none
pub stored_past : (table numbers : List ℕ) (count value : ℕ) → length table ≤ count → Stored table count numbers → Stored table (count + 1) (numbers ++ (value ∷ []))
stored_past table numbers count value full s = record {
  counted = omega (arith, s.counted, length_more numbers value);
  held =
      take-append-le (length table) numbers (value ∷ []) (omega (arith, s.counted))
      ∙ s.held
      ∙ take_all count table full
      ∙ sym (take_all (count + 1) table (omega arith));
}

-- ---- reading: the numbers done, the word at hand, and what is left of the input
pub record Reading (input : List ℕ) (i digits value count : ℕ) (table : List ℕ) : Type 0 where
  pub done : List ℕ
  pub word : List ℕ
  pub rest : list_of input ≡ after done (numbers_of (words_from word (drop i input)))
  pub size : length word ≡ digits
  pub few : digits ≤ 9
  pub all : all_digits word ≡ true
  pub makes : value ≡ value_from 0 word
  pub stored : Stored table count done
  pub slow : count ≤ i

after_none : (o : Option (List ℕ)) → o ≡ after [] o
after_none none = refl
after_none (some numbers) = refl

after_one : (done : List ℕ) (v : ℕ) (o : Option (List ℕ)) → after done (after (v ∷ []) o) ≡ after (done ++ (v ∷ [])) o
after_one done v none = refl
after_one done v (some numbers) = ap some (sym (append_assoc done (v ∷ []) numbers))

pub reading_start : (input table : List ℕ) → Reading input 0 0 0 0 table
unfolding list_of all_digits value_from
reading_start input table = record {
  done = [];
  word = [];
  rest = after_none (numbers_of (words_from [] input));
  size = refl;
  few = omega arith;
  all = refl;
  makes = refl;
  stored = stored_none table;
  slow = omega arith;
}

module _ (input : List ℕ) (i digits value count : ℕ) (table : List ℕ) (r : Reading input i digits value count table) where
  -- what is left, with the next byte in front
  next : i < length input → list_of input ≡ after r.done (numbers_of (words_from r.word (get_or input i 0 ∷ drop (i + 1) input)))
  next lt = r.rest ∙ ap (λ l. after r.done (numbers_of (words_from r.word l))) (drop-cons input i 0 lt ∙ ap (λ k. get_or input i 0 ∷ drop k input) (sym (add-one i)))

  pub reading_fits : digits < 9 → value < 100000000
  reading_fits lt = omega (arith, r.makes, value_fits r.word r.all (omega (arith, r.size)))

  pub reading_digit : i < length input → is_digit (get_or input i 0) ≡ true → digits < 9 → Reading input (i + 1) (digits + 1) (value * 10 + (get_or input i 0 - 48)) count table
  reading_digit lt e few = record {
    done = r.done;
    word = r.word ++ (get_or input i 0 ∷ []);
    rest = next lt ∙ ap (λ l. after r.done (numbers_of l)) (words_more r.word (drop (i + 1) input) (get_or input i 0) (digit_parts (get_or input i 0) e));
    size = omega (arith, r.size, length_more r.word (get_or input i 0));
    few = omega arith;
    all = digits_more r.word (get_or input i 0) r.all e;
    makes = omega (arith, r.makes, value_more 0 r.word (get_or input i 0));
    stored = r.stored;
    slow = omega (arith, r.slow);
  }

  -- a tenth digit, or a byte that is no digit and parts nothing
  spoils : i < length input → parts (get_or input i 0) ≡ false → is_number (r.word ++ (get_or input i 0 ∷ [])) ≡ false → list_of input ≡ none
  spoils lt p e =
      next lt
      ∙ ap (λ l. after r.done (numbers_of l)) (words_more r.word (drop (i + 1) input) (get_or input i 0) p)
      ∙ ap (after r.done) (spoilt (r.word ++ (get_or input i 0 ∷ [])) (drop (i + 1) input) e)

  pub reading_long : i < length input → is_digit (get_or input i 0) ≡ true → digits ≡ 9 → list_of input ≡ none
  reading_long lt e nine = spoils lt (digit_parts (get_or input i 0) e) (too_long (r.word ++ (get_or input i 0 ∷ [])) (omega (arith, r.size, length_more r.word (get_or input i 0))))

  pub reading_junk : i < length input → is_digit (get_or input i 0) ≡ false → parts (get_or input i 0) ≡ false → list_of input ≡ none
  reading_junk lt e p = spoils lt p (not_digits (r.word ++ (get_or input i 0 ∷ [])) (digits_spoilt r.word (get_or input i 0) e))

  -- the numbers done once the word at hand has ended
  module _ (table' : List ℕ) (count' : ℕ) (w : Ended table table' count count' digits value) where
    record Done : Type 0 where
      numbers : List ℕ
      ends : (words : List (List ℕ)) → after r.done (numbers_of (r.word ∷ words)) ≡ after numbers (numbers_of words)
      kept : Stored table' count' numbers
      more : count' ≤ count + 1

    done_empty : digits ≡ 0 → Done
    done_empty e = record {
      numbers = r.done;
      ends = λ words. ap (after r.done) (no_word r.word words (omega (arith, r.size)));
      kept = rw ((w.empty e).0, (w.empty e).1) r.stored;
      more = omega (arith, (w.empty e).0);
    }

    done_number : 0 < digits → Done
    done_number p = record {
      numbers = r.done ++ (value ∷ []);
      ends = λ words.
          ap (after r.done) (a_number r.word words (omega (arith, r.size)) (is_number_lem r.word (omega (arith, r.size, r.few)) r.all))
          ∙ after_one r.done (value_from 0 r.word) (numbers_of words)
          ∙ ap (λ v. after (r.done ++ (v ∷ [])) (numbers_of words)) (sym r.makes);
      kept = w.number p r.done r.stored;
      more = omega (arith, r.stored.counted, (w.number p r.done r.stored).counted, length_more r.done value);
    }

    done_word : Done
    done_word = by_lt 0 digits done_number (λ none. done_empty (omega arith))

    pub reading_part : i < length input → parts (get_or input i 0) ≡ true → Reading input (i + 1) 0 0 count' table'
    unfolding all_digits value_from
    reading_part lt p =
        let d = done_word in
        record {
          done = d.numbers;
          word = [];
          rest = next lt ∙ ap (λ l. after r.done (numbers_of l)) (words_part r.word (drop (i + 1) input) (get_or input i 0) p) ∙ d.ends (words_from [] (drop (i + 1) input));
          size = refl;
          few = omega arith;
          all = refl;
          makes = refl;
          stored = d.kept;
          slow = omega (arith, r.slow, d.more);
        }

    -- the whole input is read
    pub reading_end : length input ≤ i → Holds input table' count'
    unfolding words_from numbers_of
    reading_end over =
        let d = done_word in
        record {
          numbers = d.numbers;
          listed = r.rest ∙ ap (λ l. after r.done (numbers_of (words_from r.word l))) (drop_of_length-le input over) ∙ d.ends [] ∙ ap some (append-nil d.numbers);
          stored = d.kept;
        }
