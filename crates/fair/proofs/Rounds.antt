-- The tables hold the state of the definition after as many steps as lines have been cut, and its sums; what they begin with, and what they hold at the end. By the laws of one step. Assumes nothing.
use Prim.Native.Nat.{ℕ, ◌+◌, ◌-◌, ◌*◌, ◌≤◌, ◌<◌}
use native.Mathlib.Numerals.{add-one}
use native.Mathlib.Omega.{arith}
use mathlib.Core.Path.{◌≡◌, sym, ap, ap₂, ◌∙◌}
use mathlib.Core.List.{List}
use lib.ListN.{length, get_or, replicate, get_or-replicate, length-replicate}
use Rattle.sums.specs.Tables.{cell, tab, square, written}
use Rattle.sums.proofs.Tables.{length_square, square_cell, square_same, tab_square}
use Rattle.sums.proofs.Fills.{tab_whole}
use Rattle.star.specs.Lines.{line_sum}
use Rattle.star.specs.LineSums.{Summed}
use Rattle.star.proofs.LineLaws.{line_most, demands_below}
use Rattle.fair.specs.Fair.{taken, cut_line, step, steps, uncut, fair_kept}
use Rattle.fair.specs.Cuts.{cutting, Counted, Sound, Comparable, NextLine, CanCutLine, LineCut, CanCutAll, CanCutExactly}
use Rattle.fair.proofs.LineCuts.{line_split}
use Rattle.fair.proofs.Steps.{steps_sound, steps_below, steps_shrink, steps_still, step_cuts, taken_is_smallest, cuts, cuts_most, cuts_none, cuts_more, uncut_a, uncut_b}

-- ---- the steps
pub record Stepped (n : ℕ) (cap d kept done a b : List ℕ) : Type 0 where
  pub state : cutting kept done ≡ steps n cap (uncut n d) (cuts n (cutting kept done))
  pub counted : Counted n (cutting kept done) a b

module _ (n : ℕ) (cap d done₀ a₀ b₀ : List ℕ) (h : CanCutAll n cap d done₀ a₀ b₀) where
  at_start : cutting d done₀ ≡ uncut n d
  unfolding uncut
  at_start = ap₂ cutting (sym (square_same n d h.cells)) h.none

  pub stepped_start : Stepped n cap d d done₀ a₀ b₀
  unfolding steps
  stepped_start = record {
    state = at_start ∙ ap (steps n cap (uncut n d)) (sym (ap (cuts n) at_start ∙ cuts_none n d));
    counted = h.counted;
  }

  module _ {kept done a b : List ℕ} (S : Stepped n cap d kept done a b) where
    stepped_sound : Sound n cap (cutting kept done)
    stepped_sound = rw S.state (steps_sound n cap d (cuts n (cutting kept done)))

    pub stepped_comparable : Comparable n cap a b
    stepped_comparable = record {
      nodes = h.nodes;
      capacities = h.capacities;
      most = λ ℓ hl.
          let shrunk : line_sum n kept ℓ ≤ line_sum n d ℓ = rw (ap (λ s. s.values) S.state) (steps_shrink n cap d (cuts n (cutting kept done)) ℓ hl) in
          omega (arith, S.counted.unmodified ℓ hl, S.counted.modified ℓ hl, line_split n (cutting kept done) ℓ, line_most n d ℓ h.nodes h.demands hl);
      within = λ ℓ hl. omega (arith, S.counted.modified ℓ hl, stepped_sound.within ℓ hl);
    }

    module _ {ℓ : ℕ} (x : NextLine n cap a b (2 * n) ℓ) where
      is : ℓ ≡ taken n cap (cutting kept done) (2 * n)
      is = x.is (cutting kept done) S.counted

      -- a line is to be cut
      module _ (lt : ℓ < 2 * n) where
        pub stepped_can : CanCutLine n cap kept done a b ℓ
        stepped_can = record {
          nodes = h.nodes;
          capacities = h.capacities;
          demands = demands_below n d kept h.demands (rw (ap (λ s. s.values) S.state) (steps_below n cap d (cuts n (cutting kept done))));
          counted = S.counted;
          sound = stepped_sound;
          smallest = rw is (taken_is_smallest n cap (cutting kept done) stepped_sound (omega (arith, is)));
        }

        module _ {kept' done' a' b' : List ℕ} (C : LineCut n cap kept done a b ℓ kept' done' a' b') where
          cut_more : cuts n (cutting kept' done') ≡ cuts n (cutting kept done) + 1
          cut_more = ap (cuts n) C.state ∙ cuts_more n cap (cutting kept done) stepped_sound ℓ stepped_can.smallest

          pub stepped_more : Stepped n cap d kept' done' a' b'
          unfolding steps
          stepped_more = record {
            state =
                C.state
                ∙ ap (cut_line n cap (cutting kept done)) is
                ∙ sym (step_cuts n cap (cutting kept done) (omega (arith, is)))
                ∙ ap (step n cap) S.state
                ∙ ap (steps n cap (uncut n d)) (sym (cut_more ∙ add-one (cuts n (cutting kept done))));
            counted = C.counted;
          }

          -- fewer lines are left
          pub stepped_less : 2 * n - cuts n (cutting kept' done') < 2 * n - cuts n (cutting kept done)
          stepped_less = omega (arith, cut_more, cuts_most n (cutting kept' done'))

      -- none is left: further steps change nothing
      pub stepped_end : 2 * n ≤ ℓ → kept ≡ fair_kept n cap d
      unfolding fair_kept
      stepped_end ge =
          let k = cuts n (cutting kept done) in
          let none : 2 * n ≤ taken n cap (steps n cap (uncut n d) k) (2 * n) = rw (sym S.state) (omega (arith, is)) in
          ap (λ s. s.values) (S.state ∙ sym (steps_still n cap (uncut n d) k (2 * n) none (cuts_most n (cutting kept done))))

-- ---- the start and the end
module _ (n : ℕ) (cap d kept done : List ℕ) (h : CanCutExactly n cap d kept done) {copied : List ℕ} (c : copied ≡ written (n * n) (tab (n * n) (λ p. get_or d p 0)) kept) where
  copied_square : copied ≡ square n (cell n d)
  unfolding written
  copied_square = tab_whole (λ p. get_or d p 0) copied kept (n * n) (sym h.cells) c ∙ ap (λ m. tab m (λ p. get_or d p 0)) h.cells ∙ tab_square n d

  copied_uncut : cutting copied done ≡ uncut n d
  unfolding uncut
  copied_uncut = ap₂ cutting copied_square h.none

  pub can_cut_all : (a b : List ℕ) → 128 ≤ length a → Summed n d a → b ≡ replicate 128 0 → CanCutAll n cap copied done a b
  can_cut_all a b la sums zeros = record {
    nodes = h.square.nodes;
    capacities = h.capacities;
    cells = ap length copied_square ∙ length_square n (cell n d);
    demands = demands_below n d copied h.demands (λ i j hi hj. rw copied_square (omega (arith, square_cell n (cell n d) i j hi hj)));
    none = h.none;
    counted = rw copied_uncut (record {
      room = (omega (arith, h.square.nodes), rw (zeros, length-replicate {A = ℕ} 128 0) (omega (arith, h.square.nodes)));
      unmodified = λ ℓ hl. sums.lines ℓ hl ∙ sym (uncut_a n d ℓ hl);
      modified = λ ℓ hl. rw (zeros, get_or-replicate {A = ℕ} 128 ℓ 0 0 (omega (arith, h.square.nodes))) (sym (uncut_b n d ℓ hl));
    });
  }

  -- the rule reads the n * n cells alone
  pub copied_kept : fair_kept n cap copied ≡ fair_kept n cap d
  unfolding fair_kept uncut
  copied_kept = ap (λ s. (steps n cap s (2 * n)).values) (ap (λ v. cutting v (replicate (2 * n) 0)) (ap (λ x. square n (cell n x)) copied_square ∙ square_same n (square n (cell n d)) (length_square n (cell n d))))
