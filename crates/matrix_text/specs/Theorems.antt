-- What follows from the promise of `answer` for every answer that meets it, as statements; their proofs are in proofs/TextTheorems.antt.
use Rattle.std.specs.Prelude.{ℕ, ◌*◌, ◌≤◌, ◌<◌, ◌≡◌, List, ◌∷◌, ◌++◌, length, get_or, drop}
use Rattle.std.proofs.Math.Option.{some}
use Rattle.star.specs.declared.refusals.Refusal.{Refusal}
use Rattle.star.specs.Lines.{whole_frame}
use Rattle.star.specs.Refusals.{Sizes}
use Rattle.pieces.specs.Pieces.{Answered}
use Rattle.planner.specs.Plans.{Plan}
use Rattle.planner.specs.Lent.{Lent}
use Rattle.number_list.specs.Input.{list_of}
use Rattle.matrix_text.specs.Text.{head_text, totals_text, rows_text}
use Rattle.matrix_text.specs.Outcomes.{Outcome, BadInput, Refuses, Plans, outcome, Prints}

-- Two answers that are one: in the text, in every lent byte at exit, and in the length given.
pub record Same (text₁ out₁ : List ℕ) (r₁ : ℕ) (text₂ out₂ : List ℕ) (r₂ : ℕ) : Type 0 where
  pub texts : text₁ ≡ text₂
  pub bytes : out₁ ≡ out₂
  pub ends : r₁ ≡ r₂

-- A text of the least rule: line 1, line 2 with these two totals, and the kept rows of a plan of the demand.
pub record LeastText (n l : ℕ) (d : List ℕ) (keeps refuses : ℕ) (text : List ℕ) : Type 0 where
  pub plan : Lent
  pub planned : Plan n l 1 (whole_frame n l) d plan
  pub lines : text ≡ head_text n l 1 ++ totals_text keeps refuses ++ rows_text n plan.kept

-- Two answers under the least rule: line 1 and line 2, both totals included, are the same; the kept rows are those of two plans of the demand; the
-- lent bytes past both texts are the same.
pub record SameButRows (n l : ℕ) (d text₁ out₁ : List ℕ) (r₁ : ℕ) (text₂ out₂ : List ℕ) (r₂ : ℕ) : Type 0 where
  pub keeps : ℕ
  pub refuses : ℕ
  pub one : LeastText n l d keeps refuses text₁
  pub other : LeastText n l d keeps refuses text₂
  pub rest : (m : ℕ) → r₁ ≤ m → r₂ ≤ m → drop m out₁ ≡ drop m out₂

-- Two answers to one input agree: where it is bad input, refused or planned under the fair rule, in everything; where it is planned under the least
-- rule, in all but the kept rows. What is left is listed in docs/FREEDOMS.md.
pub record TextsAgree (o : Outcome) (text₁ out₁ : List ℕ) (r₁ : ℕ) (text₂ out₂ : List ℕ) (r₂ : ℕ) : Type 0 where
  pub bad : o ≡ BadInput → Same text₁ out₁ r₁ text₂ out₂ r₂
  pub refused : (x : Refusal) → o ≡ Refuses x → Same text₁ out₁ r₁ text₂ out₂ r₂
  pub fair : (n l : ℕ) (d : List ℕ) → o ≡ Plans n l 0 d → Same text₁ out₁ r₁ text₂ out₂ r₂
  pub least : (n l : ℕ) (d : List ℕ) → o ≡ Plans n l 1 d → SameButRows n l d text₁ out₁ r₁ text₂ out₂ r₂

-- An input in order: at most 65,536 bytes, a list of N, L, the rule and exactly N×N demands, each number in its range.
pub record InOrder (input : List ℕ) (n l rule : ℕ) (d : List ℕ) : Type 0 where
  pub short : length input ≤ 65536
  pub listed : list_of input ≡ some (n ∷ l ∷ rule ∷ d)
  pub sizes : Sizes n l
  pub known_rule : rule ≤ 1
  pub count : length d ≡ n * n
  pub demands : (p : ℕ) → p < n * n → get_or d p 0 ≤ 65535

-- all of it: two answers agree, and just the inputs in order are planned, so that the rule of a plan is 0 or 1
pub record TextTheorems : Type 0 where
  pub unique : (input out out₁ out₂ : List ℕ) (r₁ r₂ : ℕ) (a : Answered (Prints (outcome input)) out out₁ r₁) (b : Answered (Prints (outcome input)) out out₂ r₂) →
      TextsAgree (outcome input) a.text out₁ r₁ b.text out₂ r₂
  pub planned : (input : List ℕ) (n l rule : ℕ) (d : List ℕ) → InOrder input n l rule d → outcome input ≡ Plans n l rule d
  pub only : (input : List ℕ) (n l rule : ℕ) (d : List ℕ) → outcome input ≡ Plans n l rule d → InOrder input n l rule d
