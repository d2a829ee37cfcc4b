-- Bytes written piece by piece: two pieces one after the other are one piece; pieces in a row, how long they are and what stands in them. The laws
-- assume nothing.
use Prim.Native.Nat.{ℕ, zero, suc, ◌+◌, ◌*◌, ◌≤◌, ◌<◌}
use native.Mathlib.Nat.{mul-le-mul_right}
use native.Mathlib.Numerals.{add-one}
use native.Mathlib.Omega.{arith}
use mathlib.Core.Path.{◌≡◌, refl, sym, ◌∙◌, ap, ap₂}
use mathlib.Core.List.{List, [], ◌++◌, append_assoc, append-nil}
use lib.ListN.{length, get_or, take, drop, length-append, take-append-drop, get_or-append}
use lib.Seq.{take_at, drop-drop, drop-append-add, get_or-append-add, length-take-le}
use Rattle.sums.specs.Tables.{written}
use Rattle.sums.proofs.Cases.{by_lt}
use Rattle.pieces.specs.declared.Pieces.{Pieces}
use Rattle.pieces.specs.Pieces.{Appended, Puts, join_to, Answered}

-- ---- pieces
appended_none : (out : List ℕ) (at : ℕ) → Appended out out at at []
appended_none out at = record { end = omega arith; bytes = sym (take-append-drop at out) ∙ ap (λ l. l ++ drop at out) (sym (append-nil (take at out))) }

pub puts_none : (pieces : Pieces) → Puts pieces pieces []
puts_none pieces = record { same = refl; lent = refl; put = appended_none pieces.out.now pieces.at }

-- what is put from the front on is written there
pub puts_front : {before after : Pieces} {text : List ℕ} → before.at ≡ 0 → Puts before after text → after.out.now ≡ written (length text) text before.out.now
unfolding written
puts_front {before} {after} {text} start puts =
    let end : after.at ≡ length text = omega (arith, puts.put.end) in
    puts.put.bytes ∙ ap (λ k. take k before.out.now ++ text ++ drop after.at before.out.now) start ∙ ap (λ k. text ++ drop k before.out.now) end

-- one piece after another
module _ {before mid after : Pieces} {piece more : List ℕ} (first : Puts before mid piece) (next : Puts mid after more) where
  abbrev front : List ℕ
  front = take before.at before.out.now

  front_length : length (front ++ piece) ≡ mid.at
  front_length = length-append front piece ∙ omega (arith, length-take-le before.at before.out.now before.inside, first.put.end)

  mid_first : take mid.at mid.out.now ≡ front ++ piece
  mid_first = ap (take mid.at) first.put.bytes ∙ take_at (front ++ piece) (drop mid.at before.out.now) mid.at front_length

  mid_rest : drop after.at mid.out.now ≡ drop after.at before.out.now
  mid_rest =
      ap (drop after.at) first.put.bytes
      ∙ ap (λ k. drop k (front ++ piece ++ drop mid.at before.out.now)) (next.put.end ∙ ap (λ k. k + length more) (sym front_length))
      ∙ drop-append-add (front ++ piece) (drop mid.at before.out.now) (length more)
      ∙ drop-drop (length more) mid.at before.out.now
      ∙ ap (λ k. drop k before.out.now) (sym next.put.end)

  pub puts_more : Puts before after (piece ++ more)
  puts_more = record {
    same = next.same ∙ first.same;
    lent = next.lent ∙ first.lent;
    put = record {
      end = omega (arith, first.put.end, next.put.end, length-append piece more);
      bytes =
          next.put.bytes
          ∙ ap (λ l. l ++ more ++ drop after.at mid.out.now) mid_first
          ∙ ap (λ l. front ++ piece ++ more ++ l) mid_rest
          ∙ ap (λ l. l ++ drop after.at before.out.now) (append_assoc front piece more);
    };
  }

-- ---- pieces in a row
-- the same pieces are the same bytes
pub join_ext : (m : ℕ) (f g : ℕ → List ℕ) → ((k : ℕ) → k < m → f k ≡ g k) → join_to m f ≡ join_to m g
unfolding join_to
join_ext zero f g e = refl
join_ext (suc m) f g e = ap₂ ◌++◌ (join_ext m f g (λ k h. e k (omega arith))) (e m (omega arith))

module _ (f : ℕ → List ℕ) where
  pub join_none : join_to 0 f ≡ []
  unfolding join_to
  join_none = refl

  pub join_more : (m : ℕ) → join_to (m + 1) f ≡ join_to m f ++ f m
  unfolding join_to
  join_more m = rw add-one

  -- a piece and those before it are not longer than all
  pub join_part : (m n : ℕ) → m < n → length (join_to m f) + length (f m) ≤ length (join_to n f)
  unfolding join_to
  join_part m zero h = absurd (omega arith)
  join_part m (suc n) h =
      by_lt m n
      (λ low. omega (arith, join_part m n low, length-append (join_to n f) (f n)))
      (λ high. let e : m ≡ n = omega arith in rw e (omega (arith, length-append (join_to n f) (f n))))

  -- pieces of at most c bytes each
  pub join_most : (n c : ℕ) → ((k : ℕ) → k < n → length (f k) ≤ c) → length (join_to n f) ≤ n * c
  unfolding join_to
  join_most zero c most = omega arith
  join_most (suc n) c most = omega (arith, length-append (join_to n f) (f n), join_most n c (λ k h. most k (omega arith)), most n (omega arith))

  -- pieces of w bytes each
  pub join_length : (n w : ℕ) → ((k : ℕ) → k < n → length (f k) ≡ w) → length (join_to n f) ≡ n * w
  unfolding join_to
  join_length zero w all = omega arith
  join_length (suc n) w all = omega (arith, length-append (join_to n f) (f n), join_length n w (λ k h. all k (omega arith)), all n (omega arith))

  -- byte b of piece k, where every piece has w bytes
  pub join_at : (n w k b : ℕ) → ((k : ℕ) → k < n → length (f k) ≡ w) → k < n → b < w → get_or (join_to n f) (k * w + b) 0 ≡ get_or (f k) b 0
  unfolding join_to
  join_at zero w k b all hk hb = absurd (omega arith)
  join_at (suc n) w k b all hk hb =
      let before : length (join_to n f) ≡ n * w = join_length n w (λ k h. all k (omega arith)) in
      by_lt k n
      (λ low.
      get_or-append (join_to n f) (f n) 0 (k * w + b) (omega (arith, before, mul-le-mul_right w low))
      ∙ join_at n w k b (λ k h. all k (omega arith)) low hb)
      (λ high.
      let e : k ≡ n = omega arith in
      rw (e, ← before) (get_or-append-add (join_to n f) (f n) b 0))

-- ---- a text from the front
-- a promised text that is put from the front on is an answer
pub answered_text : {promised : List ℕ → Type 0} {before after : Pieces} {out out' text : List ℕ} {k : ℕ} → before.out.now ≡ out → before.at ≡ 0 → promised text → Puts before after text →
    out' ≡ after.out.now → k ≡ after.at → Answered promised out out' k
answered_text {text = text} lent start p puts kept end = record {
  text = text;
  prints = p;
  bytes = kept ∙ puts_front start puts ∙ ap (written (length text) text) lent;
  end = omega (arith, start, end, puts.put.end);
}

module _ {promised : List ℕ → Type 0} {out out' : List ℕ} {k : ℕ} where
  -- it lies within the lent bytes
  pub answered_within : Answered promised out out' k → k ≤ length out'
  unfolding written
  answered_within a = omega (arith, a.end, ap length a.bytes, length-append a.text (drop (length a.text) out))

  -- what is promised of a text may be said otherwise
  pub answered_as : {other : List ℕ → Type 0} → ((text : List ℕ) → promised text → other text) → Answered promised out out' k → Answered other out out' k
  answered_as f a = record { text = a.text; prints = f a.text a.prints; bytes = a.bytes; end = a.end }

-- two answers with one text agree in every lent byte and in the length
pub answered_same : {one other : List ℕ → Type 0} {out out₁ out₂ : List ℕ} {r₁ r₂ : ℕ} (a : Answered one out out₁ r₁) (b : Answered other out out₂ r₂) → a.text ≡ b.text →
    (out₁ ≡ out₂) × (r₁ ≡ r₂)
answered_same {out = out} a b e = (a.bytes ∙ ap (λ t. written (length t) t out) e ∙ sym b.bytes, a.end ∙ ap length e ∙ sym b.end)
