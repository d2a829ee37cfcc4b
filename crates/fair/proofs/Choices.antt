-- The line that is taken exceeds its capacity, and no line that does has a smaller fraction; where none is found none exceeds. By induction on the lines looked at. Assumes nothing.
use Prim.Native.Nat.{ℕ, zero, suc, ◌*◌, ◌≤◌, ◌<◌}
use native.Mathlib.Omega.{arith}
use mathlib.Core.Path.{◌≡◌, refl, ◌∙◌}
use mathlib.Core.Bool.{Bool, true, false, cond, ◌&&◌, ◌||◌}
use mathlib.Core.Logic.{◌⊎◌, inl, inr, ⊎_elim}
use mathlib.Core.List.{List}
use lib.ListN.{get_or}
use lib.Dec.{leb}
use borrow.Author.Tests.{lt-ltb, le-ltb, le-leb, lt-leb}
use Rattle.sums.proofs.Cases.{by_eq, by_lt}
use Rattle.star.specs.Lines.{line_sum}
use Rattle.fair.specs.Fair.{Cutting, unmodified_sum, numerator, exceeds, smaller, taken}
use Rattle.fair.specs.Cuts.{Smallest}
use Rattle.sums.proofs.Fractions.{fraction_trans}

-- no line below k exceeds
pub record Quiet (n : ℕ) (cap : List ℕ) (s : Cutting) (k : ℕ) : Type 0 where
  pub under : (m : ℕ) → m < k → line_sum n s.values m ≤ get_or cap m 0

module _ (n : ℕ) (cap : List ℕ) (s : Cutting) where
  -- one line more is looked at
  pub taken_more : (k : ℕ) → taken n cap s (suc k) ≡ cond (exceeds n cap s k && (leb (2 * n) (taken n cap s k) || smaller n cap s k (taken n cap s k))) k (taken n cap s k)
  unfolding taken
  taken_more k = go (exceeds n cap s k) (leb (2 * n) (taken n cap s k) || smaller n cap s k (taken n cap s k))
    where
      go : (a b : Bool) → cond a (cond b k (taken n cap s k)) (taken n cap s k) ≡ cond (a && b) k (taken n cap s k)
      go true b = refl
      go false b = refl

  module _ (k : ℕ) where
    skips : line_sum n s.values k ≤ get_or cap k 0 → taken n cap s (suc k) ≡ taken n cap s k
    unfolding exceeds
    skips h = taken_more k ∙ rw (le-ltb (get_or cap k 0) (line_sum n s.values k) h) refl

    module _ (over : get_or cap k 0 < line_sum n s.values k) where
      first : taken n cap s k ≡ 2 * n → taken n cap s (suc k) ≡ k
      unfolding exceeds
      first e = taken_more k ∙ rw (lt-ltb (get_or cap k 0) (line_sum n s.values k) over, le-leb (2 * n) (taken n cap s k) (omega arith)) refl

      module _ (some : taken n cap s k < 2 * n) where
        better : numerator n cap s k * unmodified_sum n s (taken n cap s k) < numerator n cap s (taken n cap s k) * unmodified_sum n s k → taken n cap s (suc k) ≡ k
        unfolding exceeds smaller
        better h = taken_more k ∙ rw (lt-ltb (get_or cap k 0) (line_sum n s.values k) over, lt-leb (2 * n) (taken n cap s k) some, lt-ltb _ _ h) refl

        keeps : numerator n cap s (taken n cap s k) * unmodified_sum n s k ≤ numerator n cap s k * unmodified_sum n s (taken n cap s k) → taken n cap s (suc k) ≡ taken n cap s k
        unfolding exceeds smaller
        keeps h = taken_more k ∙ rw (lt-ltb (get_or cap k 0) (line_sum n s.values k) over, lt-leb (2 * n) (taken n cap s k) some, le-ltb _ _ h) refl

  -- where each line that exceeds has something unmodified, so that its fraction is one
  module _ (some : (m : ℕ) → m < 2 * n → get_or cap m 0 < line_sum n s.values m → 0 < unmodified_sum n s m) where
    choice : (k : ℕ) → k ≤ 2 * n → ((taken n cap s k ≡ 2 * n) × Quiet n cap s k) ⊎ Smallest n cap s k (taken n cap s k)
    unfolding taken
    choice zero h = inl (refl, record { under = λ m p. absurd (omega arith) })
    choice (suc k) h =
        by_lt (get_or cap k 0) (line_sum n s.values k)
        (λ over. ⊎_elim
        (λ q. inr (rw (first k over q.0) (record {
          line = omega arith;
          over = over;
          smallest = λ m p o. by_eq m k (λ e. rw e (omega arith)) (λ ne. absurd (omega (arith, q.1.under m (omega arith))));
        })))
        (λ (b : Smallest n cap s k (taken n cap s k)). by_lt (numerator n cap s k * unmodified_sum n s (taken n cap s k)) (numerator n cap s (taken n cap s k) * unmodified_sum n s k)
        (λ less. inr (rw (better k over (omega (arith, b.line)) less) (record {
          line = omega arith;
          over = over;
          smallest = λ m p o. by_eq m k (λ e. rw e (omega arith)) (λ ne. fraction_trans
              (numerator n cap s k)
              (unmodified_sum n s k)
              (numerator n cap s (taken n cap s k))
              (unmodified_sum n s (taken n cap s k))
              (numerator n cap s m)
              (unmodified_sum n s m)
              (some (taken n cap s k) (omega (arith, b.line)) b.over)
              (omega arith)
              (b.smallest m (omega arith) o));
        })))
        (λ more. inr (rw (keeps k over (omega (arith, b.line)) more) (record {
          line = omega (arith, b.line);
          over = b.over;
          smallest = λ m p o. by_eq m k (λ e. rw e more) (λ ne. b.smallest m (omega arith) o);
        }))))
        (choice k (omega arith)))
        (λ under. ⊎_elim
        (λ q. inl (skips k under ∙ q.0, record { under = λ m p. by_eq m k (λ e. rw e under) (λ ne. q.1.under m (omega arith)) }))
        (λ (b : Smallest n cap s k (taken n cap s k)). inr (rw (skips k under) (record {
          line = omega (arith, b.line);
          over = b.over;
          smallest = λ m p o. by_eq m k (λ e. absurd (omega (arith, rw e at o))) (λ ne. b.smallest m (omega arith) o);
        })))
        (choice k (omega arith)))

    pub taken_smallest : taken n cap s (2 * n) < 2 * n → Smallest n cap s (2 * n) (taken n cap s (2 * n))
    taken_smallest h = ⊎_elim (λ q. absurd (omega (arith, q.0))) (λ b. b) (choice (2 * n) (omega arith))

    pub taken_none : 2 * n ≤ taken n cap s (2 * n) → Quiet n cap s (2 * n)
    taken_none h = ⊎_elim (λ q. q.1) (λ (b : Smallest n cap s (2 * n) (taken n cap s (2 * n))). absurd (omega (arith, b.line))) (choice (2 * n) (omega arith))
