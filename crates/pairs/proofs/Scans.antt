-- The loop over the new sources: what is known of those passed. The law of a step adds one to those passed, and a source that has left the set
-- was passed. They assume nothing.
use mathlib.Core.Path.{◌≡◌, refl, sym, ap, ◌∙◌}
use mathlib.Core.List.{List}
use Prim.Native.Nat.{ℕ, ◌+◌, ◌*◌, ◌≤◌, ◌<◌}
use native.Mathlib.Omega.{arith}
use lib.ListN.{length, get_or, set, length-set}
use lib.Seq.{get_or-set_same, get_or-set_other}
use Rattle.sums.proofs.Cases.{by_eq}
use Rattle.nodes.specs.Sets.{member, size, With, Without, Both, First}
use Rattle.nodes.proofs.Members.{member_lt}
use Rattle.nodes.proofs.Sizes.{size_with, size_without}
use Rattle.pairs.specs.Pairs.{allowed}
use Rattle.pairs.specs.Ways.{Choice, CanSpread, From}

-- ---- a source for a destination
pub choice_law : (n : ℕ) (may : List ℕ) (sources j heard s r : ℕ) → heard ≡ get_or may j 0 → Both sources heard s → First s r → n ≤ 64 → Choice n may sources j r
unfolding allowed
choice_law n may sources j heard s r e b f hn = record {
  among = λ lt. (product_one (member r sources) (member r heard) (member_lt r sources) (member_lt r heard) (sym (b.members r) ∙ f.found (omega arith))).0;
  allows = λ lt. ap (member r) (sym e) ∙ (product_one (member r sources) (member r heard) (member_lt r sources) (member_lt r heard) (sym (b.members r) ∙ f.found (omega arith))).1;
  none = λ le i hi q h.
      let one : member i s ≡ 1 = b.members i ∙ rw (q, ap (member i) e ∙ h) refl in
      omega (arith, f.before i (omega arith));
}
  where
    product_one : (x y : ℕ) → x < 2 → y < 2 → x * y ≡ 1 → (x ≡ 1) × (y ≡ 1)
    product_one x y hx hy h =
        by_eq x 0
        (λ z. absurd (let q : x * y ≡ 0 = rw z (omega arith) in omega arith))
        (λ nx. by_eq y 0 (λ z. absurd (let q : x * y ≡ 0 = rw z (omega arith) in omega arith)) (λ ny. (omega arith, omega arith)))

-- ---- the sources that can move to j
-- source i can, and its destination is to do and may hear none of the sources
pub record Moves (n : ℕ) (may destination next : List ℕ) (sources j reached i : ℕ) : Type 0 where
  pub moves : get_or next i 0 ≡ j
  pub come : member (get_or destination i 0) reached ≡ 1
  pub dry : (k : ℕ) → k < n → member k sources ≡ 1 → allowed may k (get_or destination i 0) ≡ 1 → ⊥

-- the new sources that have left `left` are passed
pub record Spreading (n : ℕ) (may destination next0 next : List ℕ) (sources new j todo reached left : ℕ) : Type 0 where
  pub len : length next ≡ length next0
  pub sub : (i : ℕ) → member i left ≡ 1 → member i new ≡ 1
  pub passed : (i : ℕ) → i < n → member i new ≡ 1 → member i left ≡ 0 → Moves n may destination next sources j reached i
  pub rest : (i : ℕ) → i < n → member i new ≡ 0 → get_or next i 0 ≡ get_or next0 i 0
  pub kept : (k : ℕ) → k < n → member k todo ≡ 1 → member k reached ≡ 1
  pub none : (k : ℕ) → k < n → member k reached ≡ 1 → member k todo ≡ 0 → From n destination new k
  pub many : size n reached + size n left ≤ size n todo + size n new

module _ {n : ℕ} {may destination next0 next : List ℕ} {sources new j todo reached left : ℕ}
    (c : CanSpread n may destination next0 sources new j) (g : Spreading n may destination next0 next sources new j todo reached left) {i : ℕ} (f : First left i) where
  module _ (hi : i < n) where
    here_left : member i left ≡ 1
    here_left = f.found (omega (arith, c.nodes))

    here_new : member i new ≡ 1
    here_new = g.sub i here_left

    fits : n ≤ length next
    fits = omega (arith, c.nexts, g.len)

    -- only the cells of new sources are written
    still : (u : ℕ) → u < n → member u new ≡ 0 → get_or (set next i j) u 0 ≡ get_or next0 u 0
    still u hu z = get_or-set_other next i u j 0 (λ q. omega (arith, here_new, ap (λ (x : ℕ). member x new) q)) ∙ g.rest u hu z

    module _ {k : ℕ} (ek : k ≡ get_or destination i 0) where
      pub spread_within : k < n
      spread_within = rw ek (c.paired i hi here_new)

      module _ {r : ℕ} (ch : Choice n may sources k r) where
        module _ (le : n ≤ r) {reached' left' : ℕ} (wi : With reached k reached') (wo : Without left i left') where
          more : (u : ℕ) → member u reached ≡ 1 → member u reached' ≡ 1
          more u e = by_eq u k (λ q. rw q wi.here) (λ ne. wi.other u ne ∙ e)

          pub spread_step : Spreading n may destination next0 (set next i j) sources new j todo reached' left'
          spread_step = record {
            len = length-set next i j ∙ g.len;
            sub = λ u e. by_eq u i (λ q. rw q here_new) (λ ne. g.sub u (sym (wo.other u ne) ∙ e));
            passed = λ u hu e z. by_eq u i
                (λ q. rw q (record {
                  moves = get_or-set_same next i j 0 (omega (arith, fits));
                  come = ap (λ (x : ℕ). member x reached') (sym ek) ∙ wi.here;
                  dry = λ a ha ea ok. ch.none le a ha ea (ap (allowed may a) ek ∙ ok);
                }))
                (λ ne.
                let old = g.passed u hu e (sym (wo.other u ne) ∙ z) in
                record {
                  moves = get_or-set_other next i u j 0 ne ∙ old.moves;
                  come = more (get_or destination u 0) old.come;
                  dry = old.dry;
                });
            rest = still;
            kept = λ u hu e. more u (g.kept u hu e);
            none = λ u hu e z. by_eq u k
                (λ q. record { who = i; within = hi; among = here_new; there = sym ek ∙ sym q })
                (λ ne. g.none u hu (sym (wi.other u ne) ∙ e) z);
            many = omega (arith, g.many, size_with n reached reached' k spread_within wi, size_without n left left' i hi here_left wo);
          }

          pub spread_falls : size n left' < size n left
          spread_falls = omega (arith, size_without n left left' i hi here_left wo)
