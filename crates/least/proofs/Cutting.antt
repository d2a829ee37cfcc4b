-- Cutting the lines of E one after the other, in place: where two lines too long meet only in a zero cell, a line that is to be cut still has
-- E's cells, and so E's sum, when its turn comes; after the last line every cell has what is kept.
-- Assumes nothing.
use Prim.Native.Nat.{ℕ, ◌+◌, ◌-◌, ◌*◌, ◌≤◌, ◌<◌}
use native.Mathlib.Omega.{arith}
use mathlib.Core.Path.{◌≡◌, sym, ◌∙◌, ap}
use mathlib.Core.Bool.{true, false, false≢true}
use mathlib.Core.List.{List}
use lib.ListN.{length, get_or}
use borrow.Author.Tests.{lt-ltb, le-ltb}
use Rattle.sums.specs.Tables.{cell, square}
use Rattle.sums.proofs.Cases.{by_eq, by_lt, by_test}
use Rattle.sums.proofs.Tables.{length_square, square_cell, square_ext}
use Rattle.star.specs.Tables.{Demands}
use Rattle.star.specs.Lines.{on_line, line_sum}
use Rattle.star.specs.LineSums.{Summed}
use Rattle.star.specs.Rooms.{Square}
use Rattle.star.proofs.LineLaws.{on_row, on_column, demands_below, in_column}
use Rattle.least.specs.Least.{longer, shared, left, kept_cell, kept_from}
use Rattle.least.specs.Promises.{MeetInZero, Rewritten, CanShare, CanKeep}
use Rattle.least.proofs.Remains.{length_left, left_below, two_longer_lines_meet_in_zero}
use Rattle.least.proofs.Rewritings.{rewritten_same}
use Rattle.least.proofs.Shares.{sum_same, shared_same}
use Rattle.least.proofs.Keeping.{row_shared_below, column_shared_below, kept_row, kept_column, kept_other}

-- what a table has when the lines below m have had their turn
pub record Cutting (n : ℕ) (cap e : List ℕ) (m : ℕ) (k : List ℕ) : Type 0 where
  pub rows : (i j : ℕ) → i < n → j < n → i < m → longer n cap e i ≡ true → cell n k i j ≡ shared n cap e i j
  pub columns : (i j : ℕ) → i < n → j < n → n + j < m → longer n cap e (n + j) ≡ true → cell n k i j ≡ shared n cap e (n + j) i
  pub others : (i j : ℕ) → i < n → j < n → (i < m → longer n cap e i ≡ false) → (n + j < m → longer n cap e (n + j) ≡ false) → cell n k i j ≡ cell n e i j

module _ {n : ℕ} {cap e : List ℕ} where
  module _ {m : ℕ} {k : List ℕ} (c : Cutting n cap e m k) where
    -- no cell has more than E
    pub cutting_below : (i j : ℕ) → i < n → j < n → cell n k i j ≤ cell n e i j
    cutting_below i j p q =
        by_lt i m (λ h. by_test (longer n cap e i) (λ l. omega (arith, c.rows i j p q h l, row_shared_below n cap e i j p l)) (λ l. column (λ _. l))) (λ h. column (λ g. absurd (omega arith)))
      where
        column : (i < m → longer n cap e i ≡ false) → cell n k i j ≤ cell n e i j
        column row =
            by_lt (n + j) m
            (λ h. by_test (longer n cap e (n + j))
            (λ l. omega (arith, c.columns i j p q h l, column_shared_below n cap e i j l))
            (λ l. omega (arith, c.others i j p q row (λ _. l))))
            (λ h. omega (arith, c.others i j p q row (λ g. absurd (omega arith))))

    -- a line too long in E still has E's cells
    untouched : MeetInZero n cap e → m < 2 * n → longer n cap e m ≡ true → (t : ℕ) → t < n → on_line n k m t ≡ on_line n e m t
    untouched apart hm l t p =
        by_lt m n
        (λ row. on_row n k m t row ∙ c.others m t row p (λ h. absurd (omega arith)) (λ h. absurd (omega arith)) ∙ sym (on_row n e m t row))
        (λ column.
        let q : m - n < n = omega arith in
        let at : n + (m - n) ≡ m = omega arith in
        on_column n k m t column
        ∙ by_test (longer n cap e t)
        (λ lt. omega (arith, cutting_below t (m - n) p q, apart.zero t (m - n) p q lt (ap (longer n cap e) at ∙ l)))
        (λ lt. c.others t (m - n) p q (λ _. lt) (λ h. absurd (omega arith)))
        ∙ sym (on_column n e m t column))

    -- a line is too long in E where its sum says so ..
    too_long : (sums : List ℕ) → Summed n e sums → m < 2 * n → get_or cap m 0 < get_or sums m 0 → longer n cap e m ≡ true
    unfolding longer
    too_long sums s hm l = lt-ltb (get_or cap m 0) (line_sum n e m) (omega (arith, s.lines m hm))

    -- .. and then its sum is still E's
    pub still : (sums : List ℕ) → Summed n e sums → MeetInZero n cap e → m < 2 * n → get_or cap m 0 < get_or sums m 0 → get_or sums m 0 ≡ line_sum n k m
    still sums s apart hm l = s.lines m hm ∙ sym (sum_same n cap k e m (untouched apart hm (too_long sums s hm l)))

    -- the m-th line has its turn, and is too long
    cutting_cut : MeetInZero n cap e → (k' : List ℕ) → longer n cap e m ≡ true → Rewritten n m (shared n cap e m) k k' → Cutting n cap e (m + 1) k'
    cutting_cut apart k' l r = record {
      rows = λ i j p q h li.
          by_eq i m
          (λ s. here_row i j p q s)
          (λ ni. by_eq (n + j) m
          (λ s. omega (arith, here_column i j p s, row_shared_below n cap e i j p li, column_shared_below n cap e i j (ap (longer n cap e) s ∙ l), apart.zero i j p q li (ap (longer n cap e) s ∙ l)))
          (λ nj. r.off i j p q ni nj ∙ c.rows i j p q (omega arith) li));
      columns = λ i j p q h lj.
          by_eq (n + j) m
          (λ s. here_column i j p s)
          (λ nj. r.off i j p q (λ s. omega arith) nj ∙ c.columns i j p q (omega arith) lj);
      others = λ i j p q row column.
          r.off i j p q
          (λ s. false≢true (sym (row (omega arith)) ∙ ap (longer n cap e) s ∙ l))
          (λ s. false≢true (sym (column (omega arith)) ∙ ap (longer n cap e) s ∙ l))
          ∙ c.others i j p q (λ h. row (omega arith)) (λ h. column (omega arith));
    }
      where
        here_row : (i j : ℕ) → i < n → j < n → i ≡ m → cell n k' i j ≡ shared n cap e i j
        here_row i j p q s = rw s (sym (on_row n k' m j (rw s at p)) ∙ r.on j q)

        here_column : (i j : ℕ) → i < n → n + j ≡ m → cell n k' i j ≡ shared n cap e (n + j) i
        here_column i j p s = rw s (sym (in_column n k' j i) ∙ ap (λ ℓ. on_line n k' ℓ i) s ∙ r.on i p)

    -- the m-th line has its turn, and is not too long
    cutting_uncut : longer n cap e m ≡ false → Cutting n cap e (m + 1) k
    cutting_uncut l = record {
      rows = λ i j p q h li. c.rows i j p q (below i h (λ s. false≢true (sym l ∙ ap (longer n cap e) (sym s) ∙ li))) li;
      columns = λ i j p q h lj. c.columns i j p q (below (n + j) h (λ s. false≢true (sym l ∙ ap (longer n cap e) (sym s) ∙ lj))) lj;
      others = λ i j p q row column. c.others i j p q (λ h. row (omega arith)) (λ h. column (omega arith));
    }
      where
        below : (i : ℕ) → i < m + 1 → (i ≡ m → ⊥) → i < m
        below i h ne = omega arith

    -- the m-th line has its turn: it is cut where its sum in E exceeds its capacity
    pub cutting_more : (sums : List ℕ) → Summed n e sums → MeetInZero n cap e → m < 2 * n → get_or cap m 0 < get_or sums m 0 → (k' : List ℕ) → Rewritten n m (shared n cap k m) k k' → Cutting n cap e (m + 1) k'
    cutting_more sums s apart hm l k' r =
        cutting_cut apart k' (too_long sums s hm l)
        (rewritten_same _ _ _ _ _ _ (λ t p. shared_same n cap k e m (untouched apart hm (too_long sums s hm l)) t p) r)

    pub cutting_past : (sums : List ℕ) → Summed n e sums → m < 2 * n → get_or sums m 0 ≤ get_or cap m 0 → Cutting n cap e (m + 1) k
    unfolding longer
    cutting_past sums s hm l = cutting_uncut (le-ltb (get_or cap m 0) (line_sum n e m) (omega (arith, s.lines m hm)))

  -- every line has had its turn
  pub cutting_all : (m : ℕ) (k : List ℕ) → m ≡ 2 * n → MeetInZero n cap e → length k ≡ n * n → Cutting n cap e m k → k ≡ square n (kept_cell n cap e)
  cutting_all m k end apart len c = square_ext n k (square n (kept_cell n cap e)) len (length_square n (kept_cell n cap e)) (λ i j p q.
      by_test (longer n cap e i)
      (λ l. c.rows i j p q (omega arith) l ∙ sym (kept_row n cap e i j l))
      (λ l. by_test (longer n cap e (n + j))
      (λ h. c.columns i j p q (omega arith) h ∙ sym (kept_column n cap e apart i j p q h))
      (λ h. c.others i j p q (λ _. l) (λ _. h) ∙ sym (kept_other n cap e i j l h)))
      ∙ sym (square_cell n (kept_cell n cap e) i j p q))

-- ---- E in a table of its own, and the sums of its lines
module _ {n : ℕ} {cap d a k x : List ℕ} (c : CanKeep n cap d a k) (e : x ≡ left n d a) where
  pub left_square : Square n x
  left_square = rw e (record { nodes = c.demand.nodes; cells = omega (arith, length_left n d a) })

  pub left_demands : Demands n x
  left_demands = rw e (demands_below n d (left n d a) c.demands (left_below n d a))

  pub can_share : (sums : List ℕ) → 2 * n ≤ length sums → Summed n x sums → CanShare n cap sums x
  can_share sums room s = record {
    nodes = c.demand.nodes;
    exact = ap length e ∙ length_left n d a;
    demands = left_demands;
    capacities = c.capacities;
    apart = rw e (two_longer_lines_meet_in_zero c.greatest);
    room = room;
    summed = s;
  }

  pub kept_all : (y : List ℕ) → y ≡ square n (kept_cell n cap x) → y ≡ kept_from n cap d a
  unfolding kept_from
  kept_all y f = f ∙ ap (λ z. square n (kept_cell n cap z)) e
