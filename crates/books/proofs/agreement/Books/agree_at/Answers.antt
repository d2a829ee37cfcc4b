-- `agree_at` meets its contract: the four amounts of the pair, read and tested. Assumes nothing.
use Rattle.books.specs.Books.{books_agree}
use Rattle.books.proofs.agreement.Books.agree_at.Goals as goal

pub returns : goal.returns
unfolding books_agree
returns c = c.agrees.ensures
