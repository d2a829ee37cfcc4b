-- Where nothing is asked nothing is kept, every byte is idle and nothing changes, under either rule; and there is such a plan. Neither rule keeps more
-- than is asked; a byte that named a source would count a slot for it. Assumes nothing.
use Prim.Native.Nat.{ℕ, suc, ◌+◌, ◌-◌, ◌*◌, ◌≤◌, ◌<◌}
use native.Mathlib.Omega.{arith}
use mathlib.Core.Path.{◌≡◌, refl, sym, ◌∙◌, ap}
use mathlib.Core.Logic.{⊎_elim, inr}
use mathlib.Core.Bool.{not}
use mathlib.Core.List.{List}
use lib.ListN.{length, take, replicate, length-replicate, get_or-replicate}
use lib.Arith.{digits_lt}
use lib.Seq.{take_all}
use borrow.Author.Tests.{eq-eqb}
use Rattle.sums.specs.Sums.{bit, hit}
use Rattle.sums.specs.Tables.{cell}
use Rattle.sums.proofs.Sums.{sum_at, sum_all_zero, hit_same, hit_other}
use Rattle.sums.proofs.Cases.{by_eq}
use Rattle.sums.proofs.Searches.{some_none}
use Rattle.sums.proofs.Tables.{cell_lt, square_ext, take_cell}
use Rattle.star.specs.Lines.{total, whole_frame}
use Rattle.star.specs.Schedules.{Carries, count, differ, reconfigurations}
use Rattle.star.specs.Refusals.{Sizes}
use Rattle.star.proofs.LineLaws.{line_zero}
use Rattle.fair.specs.Fair.{fair_kept}
use Rattle.fair.proofs.Steps.{fair_length, fair_below}
use Rattle.least.specs.Least.{Greatest, kept_from}
use Rattle.least.proofs.Keeping.{length_kept, kept_below}
use Rattle.planner.specs.Plans.{Plan}
use Rattle.planner.specs.Lent.{Lent}
use Rattle.worked.specs.Worked.{NothingAsked}

-- ---- what is kept
-- neither rule keeps more than is asked
module _ (n : ℕ) (cap d : List ℕ) (zeros : (i j : ℕ) → i < n → j < n → cell n d i j ≡ 0) where
  fair_nothing : (i j : ℕ) → i < n → j < n → cell n (fair_kept n cap d) i j ≡ 0
  fair_nothing i j hi hj = omega (arith, fair_below n cap d i j hi hj, zeros i j hi hj)

  least_nothing : (a : List ℕ) (i j : ℕ) → i < n → j < n → cell n (kept_from n cap d a) i j ≡ 0
  least_nothing a i j hi hj = omega (arith, kept_below n cap d a i j hi hj, zeros i j hi hj)

-- ---- the schedule
-- a byte that names a source counts a slot for it
named_counts : (n l : ℕ) (s : List ℕ) (k j : ℕ) → k < l → 1 ≤ count n l s (cell n s k j) j
unfolding count
named_counts n l s k j h = omega (arith, hit_same {a = cell n s k j} refl, sum_at l (λ k'. hit (cell n s k' j) (cell n s k j)) k h)

module _ (n l : ℕ) (s k : List ℕ) (c : Carries n l s k) (zeros : (i j : ℕ) → i < n → j < n → cell n k i j ≡ 0) where
  idle : (m j : ℕ) → m < l → j < n → cell n s m j ≡ 255
  idle m j hm hj =
      ⊎_elim
      (λ (h : cell n s m j < n). absurd (omega (arith, named_counts n l s m j hm, c.exact (cell n s m j) j h hj, zeros (cell n s m j) j h hj)))
      (λ e. e)
      (c.free.heard m j hm hj)

  unchanged : reconfigurations n l s ≡ 0
  unfolding reconfigurations differ
  unchanged = sum_all_zero (l - 1) _ (λ m h. ap bit (some_none _ n (λ j hj. ap not (eq-eqb _ _ (idle m j (omega arith) hj ∙ sym (idle (suc m) j (omega arith) hj))))))

-- ---- a plan of nothing
zeros_cell : (n i j : ℕ) → i < n → j < n → cell n (replicate (n * n) 0) i j ≡ 0
unfolding cell
zeros_cell n i j hi hj = get_or-replicate (n * n) (i * n + j) 0 0 (cell_lt n i j hi hj)

idle_cell : (n l k j : ℕ) → k < l → j < n → cell n (replicate (l * n) 255) k j ≡ 255
unfolding cell
idle_cell n l k j hk hj = get_or-replicate (l * n) (k * n + j) 255 0 (digits_lt hk hj)

all_zeros : (n : ℕ) (t : List ℕ) → length t ≡ n * n → ((i j : ℕ) → i < n → j < n → cell n t i j ≡ 0) → take (n * n) (replicate (n * n) 0) ≡ t
all_zeros n t fits zeros =
    take_all (n * n) (replicate (n * n) 0) (omega (arith, length-replicate {A = ℕ} (n * n) 0))
    ∙ square_ext n (replicate (n * n) 0) t (length-replicate (n * n) 0) fits (λ i j p q. zeros_cell n i j p q ∙ sym (zeros i j p q))

module _ (n l : ℕ) (cap d : List ℕ) (n64 : n ≤ 64) (zeros : (i j : ℕ) → i < n → j < n → cell n d i j ≡ 0) where
  carries : Carries n l (replicate (l * n) 255) (replicate (n * n) 0)
  unfolding count
  carries = record {
    free = record {
      heard = λ k j p q. inr (idle_cell n l k j p q);
      once = λ k j v p q r h e. absurd (omega (arith, idle_cell n l k j p q));
    };
    exact = λ i j p q. sum_all_zero l _ (λ k h. hit_other {a = cell n (replicate (l * n) 255) k j} (λ e. omega (arith, idle_cell n l k j h q))) ∙ sym (zeros_cell n i j p q);
  }

  total_nothing : (b : List ℕ) → ((i j : ℕ) → i < n → j < n → cell n b i j ≤ cell n d i j) → total n b ≡ 0
  unfolding total
  total_nothing b below = sum_all_zero n _ (λ i p. sum_all_zero n _ (λ j q. omega (arith, below i j p q, zeros i j p q)))

  greatest : Greatest n cap d (replicate (n * n) 0)
  greatest = record {
    withdrawn = record {
      off = λ i j p q e. zeros_cell n i j p q;
      below = λ i j p q. omega (arith, zeros_cell n i j p q);
      lines = λ ℓ h. omega (arith, line_zero n (replicate (n * n) 0) (zeros_cell n) ℓ h);
    };
    most = λ b w. omega (arith, total_nothing b w.below);
  }

pub nothing : (n l rule : ℕ) (d : List ℕ) → Sizes n l → rule ≤ 1 → ((i j : ℕ) → i < n → j < n → cell n d i j ≡ 0) → NothingAsked n l rule d
nothing n l rule d sizes known zeros = record {
  keeps = none_kept;
  idles = λ k p. idle n l k.schedule k.kept p.carried (none_kept k p);
  stays = λ k p. unchanged n l k.schedule k.kept p.carried (none_kept k p);
  planned = record {
    fair = λ e. (all_zeros n (fair_kept n cap d) (fair_length n cap d) (fair_nothing n cap d zeros), take_all (n * n) (replicate (n * n) 0) (omega (arith, length-replicate {A = ℕ} (n * n) 0)));
    least = λ e. (greatest n l cap d sizes.nodes zeros, all_zeros n (kept_from n cap d (replicate (n * n) 0)) (length_kept n cap d (replicate (n * n) 0)) (least_nothing n cap d zeros (replicate (n * n) 0)));
    carried = carries n l cap d sizes.nodes zeros;
  };
}
  where
    cap : List ℕ
    cap = whole_frame n l

    none_kept : (k : Lent) → Plan n l rule (whole_frame n l) d k → (i j : ℕ) → i < n → j < n → cell n k.kept i j ≡ 0
    none_kept k p i j hi hj =
        by_eq rule 0
        (λ e. take_cell n k.kept (fair_kept n (whole_frame n l) d) (p.fair e).0 i j hi hj ∙ fair_nothing n (whole_frame n l) d zeros i j hi hj)
        (λ ne. take_cell n k.kept (kept_from n (whole_frame n l) d k.withdrawn) (p.least (omega arith)).1 i j hi hj ∙ least_nothing n (whole_frame n l) d zeros k.withdrawn i j hi hj)
