-- The search: the nodes whose set meets another, the marks, and layers that are reached one from the other. Each turn but the last reaches a row that was
-- not, so that there are at most n more turns. The columns of a layer were not reached before it, so that no column is in two layers. What is reached leads
-- to what is reached, but for the rows of the next layer; where that has none, to nothing else, and no column of it is a goal. Assumes nothing.
use Prim.Native.Nat.{ℕ, ◌+◌, ◌*◌, ◌≤◌, ◌<◌}
use native.Mathlib.Omega.{arith}
use mathlib.Core.Path.{◌≡◌, refl, sym, ◌∙◌, ap}
use mathlib.Core.Bool.{Bool, true, false, false≢true}
use mathlib.Core.List.{List}
use mir.Val.{bool_byte}
use Rattle.std.specs.Bool.{IsTrue}
use Rattle.std.specs.Prelude.{◌↔◌}
use lib.ListN.{length, get_or, set, length-set}
use lib.Seq.{get_or-set_same, get_or-set_other}
use Rattle.sums.proofs.Cases.{by_eq, by_lt, by_test}
use Rattle.sums.proofs.Sums.{sum_one, sum_strict, hit_same, hit_other}
use Rattle.nodes.specs.Sets.{member, size, Within, All, WithWhere, Both, Minus, First}
use Rattle.nodes.proofs.Members.{member_lt}
use Rattle.nodes.proofs.SetLaws.{both_in, both_left, both_right, minus_in, minus_out, minus_gone, minus_case, first_none}
use Rattle.layers.specs.Layers.{Meets, Leading, Found, Unreached, Marked}

-- ---- the nodes that lead on
-- the nodes below i have been asked
pub record Lead (n : ℕ) (list : List ℕ) (to s i : ℕ) : Type 0 where
  pub meets : (k : ℕ) → k < i → member k s ≡ 1 → Meets n (get_or list k 0) to
  pub done : (k j : ℕ) → k < i → j < n → member j (get_or list k 0) ≡ 1 → member j to ≡ 1 → member k s ≡ 1
  pub rest : (k : ℕ) → i ≤ k → member k s ≡ 0

-- the first node of two sets is one in common, and below n as all of the other set
first_meets : {n s t r f : ℕ} → Within n t → Both s t r → First r f → f < 64 → Meets n s t
first_meets {n} {f = f} W b q lt =
    let e = q.found lt in
    by_lt f n
    (λ p. record { node = f; within = p; one = both_left b f e; other = both_right b f e })
    (λ p. absurd (omega (arith, both_right b f e, W.beyond f p)))

module _ {n : ℕ} {list : List ℕ} {to s i b f : ℕ} (l : Lead n list to s i) (few : n ≤ 64) (W : Within n to) (B : Both (get_or list i 0) to b) (F : First b f) where
  pub lead_step : (lt : i < n) (t : Bool) → (t ≡ true → f < 64) → (t ≡ false → 64 ≤ f) → {s' : ℕ} → WithWhere s i t s' → Lead n list to s' (i + 1)
  lead_step lt t yes' no' {s'} w =
      record {
        meets = λ k p e. by_eq k i
            (λ q. rw q (by_test t
            (λ v. first_meets W B F (yes' v))
            (λ v. let o : member i s' ≡ 1 = rw q at e in absurd (omega (arith, w.left v, l.rest i (omega arith))))))
            (λ q. l.meets k (omega arith) (sym (w.other k q) ∙ e));
        done = λ k j p q x y. by_eq k i
            (λ v. by_test t
            (λ u. rw v (w.added u))
            (λ u. absurd (first_none F (no' u) j (omega arith) (both_in B j (rw v at x) y))))
            (λ v. w.other k v ∙ l.done k j (omega arith) q x y);
        rest = λ k p. w.other k (λ e. omega arith) ∙ l.rest k (omega arith);
      }

pub lead_end : {n : ℕ} {list : List ℕ} {which to s r : ℕ} → Lead n list to s n → Both s which r → Leading n list which to r
lead_end {which = which} l B = record {
  among = λ k p. both_right B k;
  meets = λ k p e. l.meets k (omega arith) (both_left B k e);
  all = λ k j p q e x y. both_in B k (l.done k j (omega arith) q x y) e;
  within = record { beyond = λ k p. omega (arith, B.members k ∙ ap (λ u. u * member k which) (l.rest k p)) };
}

-- ---- the marks
-- the mark of a line: 1 where it is absent, and 0 where it is in the set
pub absent_mark : (k s : ℕ) (t : Bool) → (IsTrue t ↔ (member k s ≡ 0)) → bool_byte t + member k s ≡ 1
absent_mark k s true e = omega (arith, e.0 refl)
absent_mark k s false e = by_eq (member k s) 0 (λ z. absurd (false≢true (e.1 z))) (λ z. omega (arith, member_lt k s))

-- the lines below k are marked
pub record Marking (n r c : ℕ) (marks : List ℕ) (k : ℕ) : Type 0 where
  pub rows : (i : ℕ) → i < k → get_or marks i 0 + member i r ≡ 1
  pub columns : (j : ℕ) → j < k → get_or marks (n + j) 0 + member j c ≡ 1

pub mark_step : {n r c k : ℕ} {marks : List ℕ} → 2 * n ≤ length marks → Marking n r c marks k → k < n → (x y : ℕ) → x + member k r ≡ 1 → y + member k c ≡ 1 → Marking n r c (set (set marks k x) (n + k) y) (k + 1)
mark_step {n} {r} {c} {k} {marks} fits M lt x y ex ey =
    let l1 : length (set marks k x) ≡ length marks = simp length-set in
    record {
      rows = λ i p.
          let off = get_or-set_other (set marks k x) (n + k) i y 0 (λ e. omega arith) in
          by_eq i k
          (λ e. rw (off, e, get_or-set_same marks k x 0 (omega arith)) ex)
          (λ e. rw (off, get_or-set_other marks k i x 0 e) (M.rows i (omega arith)));
      columns = λ j p.
          by_eq j k
          (λ e. rw (e, get_or-set_same (set marks k x) (n + k) y 0 (omega (arith, l1))) ey)
          (λ e. rw (get_or-set_other (set marks k x) (n + k) (n + j) y 0 (λ q. e (omega arith)), get_or-set_other marks k (n + j) x 0 (λ q. omega arith)) (M.columns j (omega arith)));
    }

-- ---- the layers
-- `here` is the next layer of rows; fr and fc are the rows and columns that are not reached
pub record Searching (n : ℕ) (offers takers rows columns : List ℕ) (roots goals fr fc here k : ℕ) : Type 0 where
  pub count : size n fr + k ≤ n
  pub inside : Within n here
  pub column : (m j : ℕ) → m < k → j < n → member j (get_or columns m 0) ≡ 1 → Meets n (get_or offers j 0) (get_or rows m 0)
  pub row : (m i : ℕ) → m + 1 < k → i < n → member i (get_or rows (m + 1) 0) ≡ 1 → Meets n (get_or takers i 0) (get_or columns m 0)
  pub next : (m i : ℕ) → m + 1 ≡ k → i < n → member i here ≡ 1 → Meets n (get_or takers i 0) (get_or columns m 0)
  pub apart : (m p j : ℕ) → m < p → p < k → j < n → member j (get_or columns m 0) ≡ 1 → member j (get_or columns p 0) ≡ 1 → ⊥
  pub gone : (m j : ℕ) → m < k → j < n → member j (get_or columns m 0) ≡ 1 → member j fc ≡ 0
  pub first : (i : ℕ) → 0 < k → i < n → member i (get_or rows 0 0) ≡ 1 → member i roots ≡ 1
  pub root : (i : ℕ) → k ≡ 0 → i < n → member i here ≡ 1 → member i roots ≡ 1
  pub starts : (i : ℕ) → i < n → member i roots ≡ 1 → member i fr ≡ 0
  pub seen_rows : (i j : ℕ) → i < n → j < n → member i fr ≡ 0 → (member i here ≡ 1 → ⊥) → member i (get_or offers j 0) ≡ 1 → member j fc ≡ 0
  pub seen_columns : (i j : ℕ) → i < n → j < n → member j fc ≡ 0 → member j (get_or takers i 0) ≡ 1 → member i fr ≡ 0
  pub shut : (j : ℕ) → j < n → member j fc ≡ 0 → member j goals ≡ 0

pub search_start : (n : ℕ) (offers takers rows columns : List ℕ) (roots goals all all' fr : ℕ) → n ≤ 64 → Within n roots → All all → Minus all roots fr → All all' → Searching n offers takers rows columns roots goals fr all' roots 0
unfolding size
search_start n offers takers rows columns roots goals all all' fr few W A m A' = record {
  count = omega (arith, sum_one n (λ i. member i fr) (λ i p. omega (arith, member_lt i fr)));
  inside = W;
  column = λ m j p. absurd (omega arith);
  row = λ m i p. absurd (omega arith);
  next = λ m i p. absurd (omega arith);
  apart = λ m p j q r. absurd (omega arith);
  gone = λ m j p. absurd (omega arith);
  first = λ i p. absurd (omega arith);
  root = λ i e p q. q;
  starts = λ i p e. minus_gone m i e;
  seen_rows = λ i j p q e ne. absurd (ne (by_eq (member i roots) 1 (λ o. o) (λ o.
      absurd (omega (arith, minus_in m i (A.in' i (omega arith)) (omega (arith, member_lt i roots)))))));
  seen_columns = λ i j p q e. absurd (omega (arith, A'.in' j (omega arith)));
  shut = λ j p e. absurd (omega (arith, A'.in' j (omega arith)));
}

-- a layer of rows that were not reached leaves fewer of them
module _ {n : ℕ} {takers : List ℕ} {fr new here' g fr' : ℕ} (few : n ≤ 64) (L' : Leading n takers fr new here') (F' : First here' g) (lt : g < n) (M' : Minus fr here' fr') where
  pub rows_fall : size n fr' < size n fr
  unfolding size
  rows_fall =
      sum_strict n g (λ i. member i fr') (λ i. member i fr) lt (λ i p.
      by_eq g i
      (λ e.
      let o : member i here' ≡ 1 = rw e at (F'.found (omega arith)) in
      omega (arith, hit_same e, L'.among i p o, minus_gone M' i o))
      (λ e. omega (arith, hit_other e, M'.members i)))

module _ {n : ℕ} {offers takers rows columns : List ℕ} {roots goals fr fc here k new : ℕ} (S : Searching n offers takers rows columns roots goals fr fc here k) (L : Leading n offers fc here new) where
  module _ (top : ℕ) (sub : (j : ℕ) → member j top ≡ 1 → member j new ≡ 1) (fits : k < length rows) (fits' : k < length columns) where
    new_column : (m j : ℕ) → m ≤ k → j < n → member j (get_or (set columns k top) m 0) ≡ 1 → Meets n (get_or offers j 0) (get_or (set rows k here) m 0)
    new_column m j le p e =
        by_eq m k
        (λ q.
        let f : member j (get_or (set columns k top) k 0) ≡ 1 = rw q at e in
        rw (q, get_or-set_same rows k here 0 fits) (L.meets j p (sub j (sym (ap (member j) (get_or-set_same columns k top 0 fits')) ∙ f))))
        (λ q. rw (get_or-set_other rows k m here 0 q) (S.column m j (omega arith) p (sym (ap (member j) (get_or-set_other columns k m top 0 q)) ∙ e)))

    new_row : (m i : ℕ) → m < k → i < n → member i (get_or (set rows k here) (m + 1) 0) ≡ 1 → Meets n (get_or takers i 0) (get_or (set columns k top) m 0)
    new_row m i lt p e =
        let same : get_or (set columns k top) m 0 ≡ get_or columns m 0 = get_or-set_other columns k m top 0 (λ q. omega arith) in
        by_eq (m + 1) k
        (λ q.
        let f : member i (get_or (set rows k here) k 0) ≡ 1 = rw q at e in
        rw same (S.next m i q p (sym (ap (member i) (get_or-set_same rows k here 0 fits)) ∙ f)))
        (λ q. rw same (S.row m i (omega arith) p (sym (ap (member i) (get_or-set_other rows k (m + 1) here 0 q)) ∙ e)))

    new_apart : (m p j : ℕ) → m < p → p ≤ k → j < n → member j (get_or (set columns k top) m 0) ≡ 1 → member j (get_or (set columns k top) p 0) ≡ 1 → ⊥
    new_apart m p j lt le q e f =
        let e' : member j (get_or columns m 0) ≡ 1 = sym (ap (member j) (get_or-set_other columns k m top 0 (λ z. omega arith))) ∙ e in
        by_eq p k
        (λ z.
        let f' : member j (get_or (set columns k top) k 0) ≡ 1 = rw z at f in
        let o = L.among j q (sub j (sym (ap (member j) (get_or-set_same columns k top 0 fits')) ∙ f')) in
        omega (arith, o, S.gone m j (omega arith) q e'))
        (λ z. S.apart m p j lt (omega arith) q e' (sym (ap (member j) (get_or-set_other columns k p top 0 z)) ∙ f))

    new_first : (i : ℕ) → i < n → member i (get_or (set rows k here) 0 0) ≡ 1 → member i roots ≡ 1
    new_first i p e =
        by_eq k 0
        (λ z. S.root i z p (sym (ap (member i) (ap (λ u. get_or (set rows k here) u 0) (sym z) ∙ get_or-set_same rows k here 0 fits)) ∙ e))
        (λ z. S.first i (omega arith) p (sym (ap (member i) (get_or-set_other rows k 0 here 0 (λ u. z (sym u)))) ∙ e))

  module _ {ends f : ℕ} (few : n ≤ 64) (B : Both new goals ends) (F : First ends f) where
    -- a goal is reached
    pub search_found : k < length rows → k < length columns → f < n → Found n offers takers (set rows k here) (set columns k ends) roots goals k
    search_found fits fits' lt =
        let sub : (j : ℕ) → member j ends ≡ 1 → member j new ≡ 1 = λ j e. both_left B j e in
        let top = get_or-set_same columns k ends 0 fits' in
        record {
          few = omega (arith, S.count);
          layered = record { column = new_column ends sub fits fits'; row = new_row ends sub fits fits' };
          apart = record { apart = new_apart ends sub fits fits' };
          starts = new_first ends sub fits fits';
          ends = λ j p e. both_right B j (sym (ap (member j) top) ∙ e);
          some = rw top (record { node = f; within = lt; one = F.found (omega arith); other = both_right B f (F.found (omega arith)) });
        }

  module _ {fc' : ℕ} (M : Minus fc new fc') where
    -- what is reached after the columns of this layer
    reached_rows : (i j : ℕ) → i < n → j < n → member i fr ≡ 0 → member i (get_or offers j 0) ≡ 1 → member j fc' ≡ 0
    reached_rows i j p q e t =
        by_eq (member i here) 1
        (λ o. by_eq (member j fc) 0
        (λ z. minus_out M j z)
        (λ z. minus_gone M j (L.all j i q p (omega (arith, member_lt j fc)) t o)))
        (λ ne. minus_out M j (S.seen_rows i j p q e ne t))

    module _ {ends f : ℕ} (B : Both new goals ends) (F : First ends f) (over : n ≤ f) where
      reached_shut : (j : ℕ) → j < n → member j fc' ≡ 0 → member j goals ≡ 0
      reached_shut j p e =
          by_eq (member j new) 1
          (λ o. by_eq (member j goals) 0 (λ z. z) (λ z. absurd (first_none F over j p (both_in B j o (omega (arith, member_lt j goals))))))
          (λ o. S.shut j p (minus_case M j e o))

      module _ {here' g : ℕ} (L' : Leading n takers fr new here') (F' : First here' g) where
        -- nothing more is reached
        pub search_none : n ≤ g → {marks : List ℕ} → Marked n fr fc' marks → Unreached n offers takers marks roots goals
        search_none none K = record {
          starts = λ i p e. omega (arith, K.rows i p, S.starts i p e);
          columns = λ i j p q e t. omega (arith, K.columns j q, reached_rows i j p q (omega (arith, K.rows i p)) t);
          rows = λ i j p q e t.
              let z : member i fr ≡ 0 =
              by_eq (member j new) 1
              (λ o. by_eq (member i fr) 0 (λ z. z) (λ z. absurd (first_none F' none i p (L'.all i j p q (omega (arith, member_lt i fr)) t o))))
              (λ o. S.seen_columns i j p q (minus_case M j (omega (arith, K.columns j q)) o) t)
              in
              omega (arith, K.rows i p);
          ends = λ j p e. reached_shut j p (omega (arith, K.columns j p));
        }

        -- one more layer
        pub search_step : {fr' : ℕ} → n ≤ 64 → g < n → Minus fr here' fr' → k < length rows → k < length columns → Searching n offers takers (set rows k here) (set columns k new) roots goals fr' fc' here' (k + 1)
        search_step few lt M' fits fits' =
            let sub : (j : ℕ) → member j new ≡ 1 → member j new ≡ 1 = λ j e. e in
            record {
              count = omega (arith, rows_fall few L' F' lt M', S.count);
              inside = L'.within;
              column = λ m j p. new_column new sub fits fits' m j (omega arith);
              row = λ m i p. new_row new sub fits fits' m i (omega arith);
              next = λ m i e p o.
                  let q : m ≡ k = omega arith in
                  rw (q, get_or-set_same columns k new 0 fits') (L'.meets i p o);
              apart = λ m p j q r. new_apart new sub fits fits' m p j q (omega arith);
              gone = λ m j p q e.
                  by_eq m k
                  (λ z.
                  let f' : member j (get_or (set columns k new) k 0) ≡ 1 = rw z at e in
                  minus_gone M j (sym (ap (member j) (get_or-set_same columns k new 0 fits')) ∙ f'))
                  (λ z. minus_out M j (S.gone m j (omega arith) q (sym (ap (member j) (get_or-set_other columns k m new 0 z)) ∙ e)));
              first = λ i p. new_first new sub fits fits' i;
              root = λ i e. absurd (omega arith);
              starts = λ i p e. minus_out M' i (S.starts i p e);
              seen_rows = λ i j p q e ne t. reached_rows i j p q (minus_case M' i e ne) t;
              seen_columns = λ i j p q e t.
                  by_eq (member j new) 1
                  (λ o. by_eq (member i fr) 0 (λ z. minus_out M' i z) (λ z. minus_gone M' i (L'.all i j p q (omega (arith, member_lt i fr)) t o)))
                  (λ o. minus_out M' i (S.seen_columns i j p q (minus_case M j e o) t));
              shut = reached_shut;
            }
