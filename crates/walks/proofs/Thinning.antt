-- Layers that lose nodes: what they have left they had, and each node that leaves makes them lighter. Assumes nothing.
use Prim.Native.Nat.{ℕ, ◌+◌, ◌≤◌, ◌<◌}
use native.Mathlib.Omega.{arith}
use mathlib.Core.Path.{◌≡◌, sym, ◌∙◌, ap}
use mathlib.Core.List.{List}
use lib.ListN.{length, get_or}
use lib.Seq.{get_or-set_same, get_or-set_other}
use Rattle.sums.proofs.Cases.{by_eq}
use Rattle.sums.proofs.Sums.{sum_mono, sum_update}
use Rattle.nodes.specs.Sets.{member, size}
use Rattle.nodes.proofs.Members.{member_lt}
use Rattle.nodes.proofs.Sizes.{size_without}
use Rattle.layers.specs.Layers.{Apart}
use Rattle.walks.specs.Paths.{weight, LeftLayer, Thinned}

-- ---- node i leaves layer k
module _ {layers layers' : List ℕ} {k i : ℕ} (fits : k < length layers) (L : LeftLayer layers layers' k i) where
  -- the layer that it leaves, and the others
  left_here : get_or layers' k 0 ≡ L.rest
  left_here = ap (λ l. get_or l k 0) L.cells ∙ get_or-set_same layers k L.rest 0 fits

  pub left_else : (m : ℕ) → (m ≡ k → ⊥) → get_or layers' m 0 ≡ get_or layers m 0
  left_else m ne = ap (λ l. get_or l m 0) L.cells ∙ get_or-set_other layers k m L.rest 0 ne

  pub left_had : (m j : ℕ) → member j (get_or layers' m 0) ≡ 1 → member j (get_or layers m 0) ≡ 1
  left_had m j e =
      by_eq m k
      (λ q.
      let f : member j (get_or layers' k 0) ≡ 1 = rw q at e in
      let g : member j L.rest ≡ 1 = sym (ap (member j) left_here) ∙ f in
      by_eq j i
      (λ z. let h : member i L.rest ≡ 1 = rw z at g in absurd (omega (arith, L.without.here)))
      (λ z. rw q (sym (L.without.other j z) ∙ g)))
      (λ q. sym (ap (member j) (left_else m q)) ∙ e)

  pub left_gone : member i (get_or layers' k 0) ≡ 0
  left_gone = ap (member i) left_here ∙ L.without.here

  left_size : (n : ℕ) → i < n → member i (get_or layers k 0) ≡ 1 → size n (get_or layers' k 0) + 1 ≡ size n (get_or layers k 0)
  left_size n lt e = omega (arith, ap (size n) left_here, size_without n (get_or layers k 0) L.rest i lt e L.without)

-- ---- how many nodes the layers have
pub row_leaves : {k i last : ℕ} {rows rows' : List ℕ} (n : ℕ) (columns : List ℕ) → k ≤ last → i < n → k < length rows → member i (get_or rows k 0) ≡ 1 → LeftLayer rows rows' k i → weight n rows' columns last < weight n rows columns last
unfolding weight
row_leaves {k} {last = last} {rows = rows} {rows' = rows'} n columns le lt fits e L =
    omega (
      arith,
      left_size fits L n lt e,
      sum_update (last + 1) (λ m. size n (get_or rows m 0) + size n (get_or columns m 0)) (λ m. size n (get_or rows' m 0) + size n (get_or columns m 0)) k (omega arith)
          (λ m p ne. ap (λ z. size n z + size n (get_or columns m 0)) (left_else fits L m ne)),
    )

pub column_leaves : {k j last : ℕ} {columns columns' : List ℕ} (n : ℕ) (rows : List ℕ) → k ≤ last → j < n → k < length columns → member j (get_or columns k 0) ≡ 1 → LeftLayer columns columns' k j → weight n rows columns' last < weight n rows columns last
unfolding weight
column_leaves {k} {last = last} {columns = columns} {columns' = columns'} n rows le lt fits e L =
    omega (
      arith,
      left_size fits L n lt e,
      sum_update (last + 1) (λ m. size n (get_or rows m 0) + size n (get_or columns m 0)) (λ m. size n (get_or rows m 0) + size n (get_or columns' m 0)) k (omega arith)
          (λ m p ne. ap (λ z. size n (get_or rows m 0) + size n z) (left_else fits L m ne)),
    )

-- a set that has only what another has is not larger
size_part : (n s t : ℕ) → ((i : ℕ) → member i t ≡ 1 → member i s ≡ 1) → size n t ≤ size n s
unfolding size
size_part n s t part = sum_mono n (λ i. member i t) (λ i. member i s) (λ i p.
    by_eq (member i t) 1
    (λ e. omega (arith, part i e))
    (λ e. omega (arith, member_lt i t)))

-- ---- thinned layers
pub thinned_none : (rows columns : List ℕ) → Thinned rows columns rows columns
thinned_none rows columns = record { row = λ k i e. e; column = λ k j e. e }

pub thinned_join : {rows columns rows₁ columns₁ rows₂ columns₂ : List ℕ} → Thinned rows columns rows₁ columns₁ → Thinned rows₁ columns₁ rows₂ columns₂ → Thinned rows columns rows₂ columns₂
thinned_join T U = record { row = λ k i e. T.row k i (U.row k i e); column = λ k j e. T.column k j (U.column k j e) }

module _ {rows columns rows' columns' : List ℕ} (T : Thinned rows columns rows' columns') where
  pub thinned_row : {k i : ℕ} {rows'' : List ℕ} → k < length rows' → LeftLayer rows' rows'' k i → Thinned rows columns rows'' columns'
  thinned_row fits L = record { row = λ m j e. T.row m j (left_had fits L m j e); column = T.column }

  pub thinned_column : {k j : ℕ} {columns'' : List ℕ} → k < length columns' → LeftLayer columns' columns'' k j → Thinned rows columns rows' columns''
  thinned_column fits L = record { row = T.row; column = λ m i e. T.column m i (left_had fits L m i e) }

  pub thinned_weight : (n last : ℕ) → weight n rows' columns' last ≤ weight n rows columns last
  unfolding weight
  thinned_weight n last =
      sum_mono (last + 1) (λ k. size n (get_or rows' k 0) + size n (get_or columns' k 0)) (λ k. size n (get_or rows k 0) + size n (get_or columns k 0)) (λ k p.
      omega (arith, size_part n (get_or rows k 0) (get_or rows' k 0) (T.row k), size_part n (get_or columns k 0) (get_or columns' k 0) (T.column k)))

  pub thinned_apart : {n last : ℕ} → Apart n columns last → Apart n columns' last
  thinned_apart A = record { apart = λ k m j lt le q e f. A.apart k m j lt le q (T.column k j e) (T.column m j f) }
