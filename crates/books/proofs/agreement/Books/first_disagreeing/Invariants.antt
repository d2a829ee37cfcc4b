use Prim.Native.Nat.{ℕ, ◌+◌, ◌*◌, ◌<◌}
use mathlib.Core.Path.{◌≡◌}
use mathlib.Core.Bool.{true}
use Rattle.books.specs.Books.{books_agree}
use Rattle.books.proofs.agreement.Books.first_disagreeing.Given as goal

abbrev pub invariant-loop-i : goal.invariant-loop-i
invariant-loop-i l = (q : ℕ) → q < l.i * l.n → books_agree l.limit l.posts l.self.waiting.now l.self.posted.now l.self.sent.now l.self.dropped.now q ≡ true

abbrev pub invariant-loop-j : goal.invariant-loop-j
invariant-loop-j l = (q : ℕ) → q < l.i * l.n + l.j → books_agree l.limit l.posts l.self.waiting.now l.self.posted.now l.self.sent.now l.self.dropped.now q ≡ true
