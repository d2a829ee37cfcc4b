-- `cells_verdict` meets its contract: the checks in their order; 4,096 posts of 64 nodes have few cells, so that nothing wraps. Assumes nothing.
use native.Mathlib.Omega.{arith}
use mathlib.Core.Path.{refl, sym}
use lib.ListN.{length}
use borrow.Author.Tests.{le-ltb}
use Rattle.star.specs.declared.refusals.Refusal.TheVariants.{DemandAbove}
use Rattle.star.proofs.RefusalLaws.{passes, fires_found, passes_found, found_first}
use Rattle.file_writer.specs.Writing.{cells_verdict}
use Rattle.file_writer.proofs.ByteLaws.{posts_few, cells_few}
use Rattle.file_writer.proofs.writing.cells_verdict.Goals as goal

pub overflow_mul-count-2 : goal.overflow_mul-count-2
overflow_mul-count-2 c = omega (arith, cells_few c.args.n c.count_posts-posts.result c.requires.0 (omega (arith, c.count_posts-posts.ensures, c.requires.1, posts_few c.args.kinds.now (length c.args.kinds.now))))

pub overflow_cast-result : goal.overflow_cast-result
overflow_cast-result c = omega (arith, (found_first (sym c.in-Some.ensures)).1, cells_few c.args.n c.count_posts-posts.result c.requires.0 (omega (arith, c.count_posts-posts.ensures, c.requires.1, posts_few c.args.kinds.now (length c.args.kinds.now))))

pub returns-in-Some : goal.returns-in-Some
unfolding cells_verdict
returns-in-Some c = rw (← c.count_posts-posts.ensures) (passes _ (le-ltb _ _ c.if-cells-count.false) (passes _ (le-ltb _ _ c.if-bytes-kinds.false) (fires_found _ _ DemandAbove _ (sym c.in-Some.ensures))))

pub returns-in-None : goal.returns-in-None
unfolding cells_verdict
returns-in-None c = rw (← c.count_posts-posts.ensures) (passes _ (le-ltb _ _ c.if-cells-count.false) (passes _ (le-ltb _ _ c.if-bytes-kinds.false) (passes_found _ _ _ (sym c.in-None.ensures) refl)))
