-- `post` meets its contract: the record is copied out, `post_on` says what happens, and an accepted post had a count left. Assumes nothing.
use mathlib.Core.Path.{refl}
use Rattle.calls.proofs.Outcomes.{post_counted}
use Rattle.run.proofs.post.post.Goals as goal

pub posts_after-run-requires : goal.posts_after-run-requires
posts_after-run-requires c = post_counted _ c.in_ok-post_on.ensures refl
