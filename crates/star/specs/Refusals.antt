-- What is refused: each refusal's number and place, and when it fires.
use Rattle.std.specs.Prelude.{ℕ, ◌*◌, ◌≤◌, ◌≡◌, Bool, true, false, ◌||◌, List, get_or, ltb, leb, Result, Ok, Err}
use Rattle.sums.specs.Searches.{first_below}
use Rattle.star.specs.declared.refusals.Refusal.{Refusal}
use Rattle.star.specs.declared.refusals.Refusal.TheVariants.{Nodes, Slots, Rule, DemandShort, TableShort, DemandAbove, QueueLimit, BooksDisagree, CallsSpent, BadFile}

-- what is given: a number and a place of the table
pub record Notice : Type 0 where
  pub number : ℕ
  pub place : ℕ

abbrev pub notice : (number place : ℕ) → Notice
notice number place = record { number = number; place = place }

-- the table's columns "No." and "Place": 0, or the cell; and request 101's 10, whose place is the entry of the file
abbrev pub refusal_notice : Refusal → Notice
refusal_notice Nodes = notice 1 0
refusal_notice Slots = notice 2 0
refusal_notice Rule = notice 3 0
refusal_notice DemandShort = notice 4 0
refusal_notice TableShort = notice 5 0
refusal_notice (DemandAbove c) = notice 6 c
refusal_notice QueueLimit = notice 7 0
refusal_notice (BooksDisagree c) = notice 8 c
refusal_notice CallsSpent = notice 9 0
refusal_notice (BadFile e) = notice 10 e

abbrev pub refusal_number : Refusal → ℕ
refusal_number r = (refusal_notice r).number

abbrev pub refusal_place : Refusal → ℕ
refusal_place r = (refusal_notice r).place

-- An accepted call reports number 0 and place 0.
abbrev pub accepted : Notice
accepted = notice 0 0

-- What a call that reports nothing else answers: it is accepted, or refused with a refusal.
abbrev pub Verdict : Type 0
Verdict = Result (Unit {0}) Refusal

abbrev pub Accepted : Verdict
Accepted = Ok tt

abbrev pub Refused : Refusal → Verdict
Refused r = Err r

-- the verdict of an answer, whatever an accepted call answers
abbrev pub verdict_of : {A : Type 0} → Result A Refusal → Verdict
verdict_of (Ok _) = Accepted
verdict_of (Err r) = Refused r

abbrev pub notice_of : Verdict → Notice
notice_of (Ok _) = accepted
notice_of (Err r) = refusal_notice r

abbrev pub verdict_number : Verdict → ℕ
verdict_number v = (notice_of v).number

abbrev pub verdict_place : Verdict → ℕ
verdict_place v = (notice_of v).place

-- The first that fires is given: a check's own number and place where it fires, and else what the later checks give.
unfoldable pub check : (fires : Bool) (number place : ℕ) → Notice → Notice
check true number place later = notice number place
check false number place later = later

-- What every entry promises, given the verdict that is due and its number and place, what may change, before and after the call, and what an
-- accepted call has done: it gives that verdict, what it accepts is done, and a refusal leaves everything as before. Number and place tell the
-- verdict, since a refusal has its own.
pub record Promise {S : Type 0} (v due : Verdict) (numbers : Notice) (before after : S) (Done : Type 0) : Type 0 where
  pub answer : v ≡ due
  pub notice : notice_of v ≡ numbers
  pub accepted : v ≡ Accepted → Done
  pub refused : (x : Refusal) → v ≡ Refused x → after ≡ before

-- outside its range
abbrev pub outside : (low high x : ℕ) → Bool
outside low high x = ltb x low || ltb high x

-- N: 1 to 64
abbrev pub nodes_out : ℕ → Bool
nodes_out n = outside 1 64 n

-- L: 1 to 1,024
abbrev pub slots_out : ℕ → Bool
slots_out l = outside 1 1024 l

-- the rule: 0 fair, 1 least
abbrev pub rule_out : ℕ → Bool
rule_out rule = ltb 1 rule

-- B: 1 to 65,535
abbrev pub limit_out : ℕ → Bool
limit_out b = outside 1 65535 b

-- a table of so many cells is shorter than needed
abbrev pub short : (cells needed : ℕ) → Bool
short cells needed = ltb cells needed

-- this kind of call already accepted 1,000,000 times or more
abbrev pub spent : ℕ → Bool
spent calls = leb 1000000 calls

-- whether some of the first m cells is a bad one, given the first bad cell among them, or m
abbrev pub some_cell : (m first : ℕ) → Bool
some_cell m first = ltb first m

-- the first of so many cells that is above 65,535, or their number
abbrev pub first_above_in : (count : ℕ) (cells : List ℕ) → ℕ
first_above_in count cells = first_below count (λ p. ltb 65535 (get_or cells p 0))

-- A demand or arrival above 65,535; the first such cell in row order gives the place. Here that cell, or N×N where there is none.
unfoldable pub first_above : (n : ℕ) (d : List ℕ) → ℕ
first_above n d = first_above_in (n * n) d

-- N and L within their ranges
pub record Sizes (n l : ℕ) : Type 0 where
  pub some_nodes : 1 ≤ n
  pub nodes : n ≤ 64
  pub some_slots : 1 ≤ l
  pub slots : l ≤ 1024

-- N, L, the rule and B within their ranges
pub record Ranges (n l rule limit : ℕ) : Type 0 where
  pub sizes : Sizes n l
  pub known_rule : rule ≤ 1
  pub some_limit : 1 ≤ limit
  pub known_limit : limit ≤ 65535
