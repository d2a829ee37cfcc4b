-- Which refusal each call of a run gives, in document 01's numbers: each check by itself, and with the next one in the order; and what accepted calls
-- write. By computation. Assumes nothing.
use Prim.Native.Nat.{ℕ}
use mathlib.Core.Path.{◌≡◌, refl}
use mathlib.Core.List.{List, [], ◌∷◌}
use Rattle.sums.specs.Searches.{first_below, first_from}
use Rattle.sums.specs.Tables.{tab, written}
use Rattle.star.specs.declared.refusals.Refusal.TheVariants.{Rule}
use Rattle.star.specs.Refusals.{Accepted, Refused, Notice, notice, notice_of, first_above}
use Rattle.star.specs.Checks.{sizes_verdict, rule_verdict, rule_and_limit_verdict, ranges_verdict, demand_short_verdict, demand_above_verdict, refuse, then}
use Rattle.planner.specs.Checks.{lent_short_verdict}
use Rattle.books.specs.Books.{books_agree, first_disagreeing}
use Rattle.books.specs.Queues.{zeroed, increased, overflowed, queued, served}
use Rattle.calls.specs.declared.record.Run.{Run}
use Rattle.calls.specs.Held.{held, after_fresh, after_post, after_frame, record_after}
use Rattle.calls.specs.Checks.{held_short_verdict, agreement_verdict, count_verdict, fresh_verdict, post_verdict, frame_verdict}

-- the record with N, L, B, the rule and the two counts
abbrev run : (nodes slots limit rule posts frames : ℕ) → Run
run nodes slots limit rule posts frames = record { nodes = nodes; slots = slots; limit = limit; rule = rule; posts = posts; frames = frames }

-- ---- fresh, given how many cells each of the four tables has
abbrev fresh : (n l limit rule waiting posted sent dropped : ℕ) → Notice
fresh n l limit rule waiting posted sent dropped = notice_of (fresh_verdict n l limit rule waiting posted sent dropped)

-- the checks of `fresh`, each with the next one
pub record FreshGives : Type 0 where
  pub nodes : fresh 0 0 6 1 1 1 1 1 ≡ notice 1 0
  pub slots : fresh 1 0 6 2 1 1 1 1 ≡ notice 2 0
  pub rule : fresh 1 4 0 2 1 1 1 1 ≡ notice 3 0
  pub no_limit : fresh 1 4 0 1 0 1 1 1 ≡ notice 7 0
  pub high_limit : fresh 1 4 65536 1 1 1 1 1 ≡ notice 7 0
  pub short_waiting : fresh 2 4 6 1 3 4 4 4 ≡ notice 5 0
  pub short_posted : fresh 2 4 6 1 4 3 4 4 ≡ notice 5 0
  pub short_sent : fresh 2 4 6 1 4 4 3 4 ≡ notice 5 0
  pub short_dropped : fresh 2 4 6 1 4 4 4 3 ≡ notice 5 0
  pub lowest : fresh 1 1 1 0 1 1 1 1 ≡ notice 0 0
  pub highest : fresh 64 1024 65535 1 4096 4096 4096 4096 ≡ notice 0 0

fresh_gives : FreshGives
unfolding fresh_verdict ranges_verdict rule_and_limit_verdict rule_verdict sizes_verdict held_short_verdict then refuse
fresh_gives = record {
  nodes = refl;
  slots = refl;
  rule = refl;
  no_limit = refl;
  high_limit = refl;
  short_waiting = refl;
  short_posted = refl;
  short_sent = refl;
  short_dropped = refl;
  lowest = refl;
  highest = refl;
}

-- the record, both counts and the cells needed
fresh_held : after_fresh 1 4 6 0 (held (run 9 9 9 9 9 9) (7 ∷ 8 ∷ []) (5 ∷ []) (3 ∷ []) (1 ∷ [])) ≡ held (run 1 4 6 0 0 0) (0 ∷ 8 ∷ []) (0 ∷ []) (0 ∷ []) (0 ∷ [])
unfolding zeroed written
fresh_held = refl

-- a refused call leaves the record
record_then : record_after Accepted (run 1 4 6 0 0 0) (run 9 9 9 9 9 9) ∷ record_after (Refused Rule) (run 1 4 6 0 0 0) (run 9 9 9 9 9 9) ∷ [] ≡ run 1 4 6 0 0 0 ∷ run 9 9 9 9 9 9 ∷ []
unfolding record_after
record_then = refl

-- ---- post
abbrev post : (old : Run) (arrivals waiting posted sent dropped : List ℕ) → Notice
post old arrivals waiting posted sent dropped = notice_of (post_verdict arrivals (held old waiting posted sent dropped))

-- the checks of `post`, each with the next one
pub record PostGives : Type 0 where
  pub nodes : post (run 65 0 6 1 0 0) (1 ∷ []) (0 ∷ []) (0 ∷ []) (0 ∷ []) (0 ∷ []) ≡ notice 1 0
  pub slots : post (run 1 1025 6 2 0 0) (1 ∷ []) (0 ∷ []) (0 ∷ []) (0 ∷ []) (0 ∷ []) ≡ notice 2 0
  pub rule : post (run 1 4 0 2 0 0) (1 ∷ []) (0 ∷ []) (0 ∷ []) (0 ∷ []) (0 ∷ []) ≡ notice 3 0
  pub limit : post (run 1 4 0 1 0 0) [] (0 ∷ []) (0 ∷ []) (0 ∷ []) (0 ∷ []) ≡ notice 7 0
  pub arrivals : post (run 1 4 6 1 0 0) [] [] (0 ∷ []) (0 ∷ []) (0 ∷ []) ≡ notice 4 0
  -- a table that is only read counts too
  pub short_sent : post (run 1 4 6 1 0 0) (1 ∷ []) (7 ∷ []) (0 ∷ []) [] (0 ∷ []) ≡ notice 5 0
  -- the first of two pairs whose books disagree
  pub books : post (run 2 4 6 1 1000000 0) (1 ∷ 1 ∷ 1 ∷ 1 ∷ []) (0 ∷ 7 ∷ 7 ∷ 0 ∷ []) (0 ∷ 7 ∷ 7 ∷ 0 ∷ []) (0 ∷ 0 ∷ 0 ∷ 0 ∷ []) (0 ∷ 0 ∷ 0 ∷ 0 ∷ []) ≡ notice 8 1
  pub spent : post (run 1 4 6 1 1000000 0) (65536 ∷ []) (0 ∷ []) (0 ∷ []) (0 ∷ []) (0 ∷ []) ≡ notice 9 0
  pub long_spent : post (run 1 4 6 1 4294967295 0) (1 ∷ []) (0 ∷ []) (0 ∷ []) (0 ∷ []) (0 ∷ []) ≡ notice 9 0
  pub above : post (run 2 4 6 1 0 0) (0 ∷ 65535 ∷ 0 ∷ 65536 ∷ []) (0 ∷ 0 ∷ 0 ∷ 0 ∷ []) (0 ∷ 0 ∷ 0 ∷ 0 ∷ []) (0 ∷ 0 ∷ 0 ∷ 0 ∷ []) (0 ∷ 0 ∷ 0 ∷ 0 ∷ []) ≡ notice 6 3
  pub last : post (run 1 4 6 1 999999 1000000) (65535 ∷ []) (6 ∷ []) (6 ∷ []) (0 ∷ []) (0 ∷ []) ≡ notice 0 0
  -- posted at 65,535 × posts, and one above
  pub all_posted : post (run 1 4 6 1 2 0) (1 ∷ []) (0 ∷ []) (131070 ∷ []) (131070 ∷ []) (0 ∷ []) ≡ notice 0 0
  pub over_posted : post (run 1 4 6 1 2 0) (1 ∷ []) (0 ∷ []) (131071 ∷ []) (131071 ∷ []) (0 ∷ []) ≡ notice 8 0

post_gives : PostGives
unfolding post_verdict ranges_verdict rule_and_limit_verdict rule_verdict sizes_verdict demand_short_verdict held_short_verdict agreement_verdict count_verdict demand_above_verdict then refuse first_disagreeing books_agree first_above first_below first_from
post_gives = record {
  nodes = refl;
  slots = refl;
  rule = refl;
  limit = refl;
  arrivals = refl;
  short_sent = refl;
  books = refl;
  spent = refl;
  long_spent = refl;
  above = refl;
  last = refl;
  all_posted = refl;
  over_posted = refl;
}

-- B 6: 5 wait and 10 arrive, so that 6 wait and 9 are dropped; where 1 arrives 6 wait and none is dropped; posts rises, and nothing else in the record
post_held :
    after_post (10 ∷ 1 ∷ 0 ∷ 7 ∷ []) (held (run 2 4 6 1 7 9) (5 ∷ 5 ∷ 6 ∷ 0 ∷ 3 ∷ []) (1 ∷ 1 ∷ 1 ∷ 1 ∷ 3 ∷ []) (2 ∷ 2 ∷ 2 ∷ 2 ∷ []) (1 ∷ 1 ∷ 1 ∷ 1 ∷ 3 ∷ [])) ≡
    held (run 2 4 6 1 8 9) (6 ∷ 6 ∷ 6 ∷ 6 ∷ 3 ∷ []) (11 ∷ 2 ∷ 1 ∷ 8 ∷ 3 ∷ []) (2 ∷ 2 ∷ 2 ∷ 2 ∷ []) (10 ∷ 1 ∷ 1 ∷ 2 ∷ 3 ∷ [])
unfolding queued increased overflowed written tab
post_held = refl

-- ---- frame, given how many cells kept, withdrawn and schedule have
abbrev frame : (old : Run) (waiting posted sent dropped : List ℕ) (kept withdrawn schedule : ℕ) → Notice
frame old waiting posted sent dropped kept withdrawn schedule = notice_of (frame_verdict (held old waiting posted sent dropped) kept withdrawn schedule)

-- the checks of `frame`, each with the next one
pub record FrameGives : Type 0 where
  pub nodes : frame (run 0 0 6 1 0 0) (0 ∷ []) (0 ∷ []) (0 ∷ []) (0 ∷ []) 1 1 4 ≡ notice 1 0
  pub slots : frame (run 1 0 6 2 0 0) (0 ∷ []) (0 ∷ []) (0 ∷ []) (0 ∷ []) 1 1 4 ≡ notice 2 0
  pub rule : frame (run 1 4 65536 2 0 0) (0 ∷ []) (0 ∷ []) (0 ∷ []) (0 ∷ []) 1 1 4 ≡ notice 3 0
  pub limit : frame (run 1 4 65536 1 0 0) [] (0 ∷ []) (0 ∷ []) (0 ∷ []) 1 1 4 ≡ notice 7 0
  pub short_posted : frame (run 1 4 6 1 0 0) (7 ∷ []) [] (0 ∷ []) (0 ∷ []) 1 1 4 ≡ notice 5 0
  pub short_kept : frame (run 1 4 6 1 0 0) (7 ∷ []) (0 ∷ []) (0 ∷ []) (0 ∷ []) 0 1 4 ≡ notice 5 0
  pub short_withdrawn : frame (run 1 4 6 1 0 0) (7 ∷ []) (0 ∷ []) (0 ∷ []) (0 ∷ []) 1 0 4 ≡ notice 5 0
  pub short_schedule : frame (run 1 4 6 1 0 0) (7 ∷ []) (0 ∷ []) (0 ∷ []) (0 ∷ []) 1 1 3 ≡ notice 5 0
  -- the bound of posted is 65,535 × posts in a frame too
  pub books : frame (run 1 4 6 1 0 1000000) (1 ∷ []) (1 ∷ []) (0 ∷ []) (0 ∷ []) 1 1 4 ≡ notice 8 0
  pub spent : frame (run 1 4 6 1 1 1000000) (1 ∷ []) (1 ∷ []) (0 ∷ []) (0 ∷ []) 1 1 4 ≡ notice 9 0
  -- case p: post count 1,000,000, frame count 0, all else in order: the next post gives 9, a frame is still accepted
  pub case_p : frame (run 1 4 6 1 1000000 0) (6 ∷ []) (6 ∷ []) (0 ∷ []) (0 ∷ []) 1 1 4 ≡ notice 0 0
  pub case_p_post : post (run 1 4 6 1 1000000 0) (0 ∷ []) (6 ∷ []) (6 ∷ []) (0 ∷ []) (0 ∷ []) ≡ notice 9 0
  -- a frame over empty queues is accepted
  pub empty : frame (run 1 4 6 1 0 999999) (0 ∷ []) (0 ∷ []) (0 ∷ []) (0 ∷ []) 1 1 4 ≡ notice 0 0

frame_gives : FrameGives
unfolding frame_verdict post_verdict ranges_verdict rule_and_limit_verdict rule_verdict sizes_verdict demand_short_verdict held_short_verdict lent_short_verdict agreement_verdict count_verdict demand_above_verdict then refuse first_disagreeing books_agree first_above first_below first_from
frame_gives = record {
  nodes = refl;
  slots = refl;
  rule = refl;
  limit = refl;
  short_posted = refl;
  short_kept = refl;
  short_withdrawn = refl;
  short_schedule = refl;
  books = refl;
  spent = refl;
  case_p = refl;
  case_p_post = refl;
  empty = refl;
}

-- what is kept leaves the queue; frames rises, and nothing else in the record
frame_held :
    after_frame (4 ∷ 0 ∷ 2 ∷ 0 ∷ 9 ∷ []) (held (run 2 4 6 0 7 9) (6 ∷ 1 ∷ 2 ∷ 0 ∷ 9 ∷ []) (8 ∷ 1 ∷ 2 ∷ 0 ∷ []) (1 ∷ 0 ∷ 0 ∷ 0 ∷ 5 ∷ []) (1 ∷ 0 ∷ 0 ∷ 0 ∷ [])) ≡
    held (run 2 4 6 0 7 10) (2 ∷ 1 ∷ 0 ∷ 0 ∷ 9 ∷ []) (8 ∷ 1 ∷ 2 ∷ 0 ∷ []) (5 ∷ 0 ∷ 2 ∷ 0 ∷ 5 ∷ []) (1 ∷ 0 ∷ 0 ∷ 0 ∷ [])
unfolding served increased written tab
frame_held = refl
