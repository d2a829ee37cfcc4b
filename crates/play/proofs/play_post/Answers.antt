-- `play_post` meets its contract: the cells lent to the post are those of the file. Assumes nothing.
use Rattle.play.proofs.PlayLaws.{post_played}
use Rattle.play.proofs.play_post.Goals as goal

pub returns : goal.returns
returns c = post_played _ _ c.read_cells.ensures.0 c.read_cells.ensures.1 c.post_on.ensures
