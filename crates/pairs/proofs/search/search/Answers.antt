-- `pairs::search::search` meets its contract: the loop keeps `Finding`; each turn has one destination fewer to do, or sources fewer left. Assumes nothing.
use Rattle.pairs.proofs.Finds.{find_start, find_spread, find_found, find_step, find_falls}
use Rattle.pairs.proofs.search.search.Goals as goal

pub loop-n-init : goal.loop-n-init
loop-n-init c = find_start _ _ _ _ _ _ _ c.requires c.all-left.ensures

pub spread-step-requires : goal.spread-step-requires
spread-step-requires c = find_spread c.requires c.loop-n.invariant c.first-j.ensures c.if-j-n.false c.set_at-heard.ensures c.both-new.ensures

pub returns-then-step-n : goal.returns-then-step-n
returns-then-step-n c = find_found c.requires c.loop-n.invariant c.first-j.ensures c.if-j-n.false c.set_at-heard.ensures c.both-new.ensures (c.spread-step.ensures.met c.if-step-n.true) c.if-step-n.true

pub loop-n-smaller : goal.loop-n-smaller
loop-n-smaller c = find_falls c.requires c.loop-n.invariant c.first-j.ensures c.if-j-n.false c.set_at-heard.ensures c.both-new.ensures c.minus-left.ensures c.without-todo.ensures (c.spread-step.ensures.none c.if-step-n.false) c.spread-step.auto.next

pub loop-n-preserved : goal.loop-n-preserved
loop-n-preserved c = find_step c.requires c.loop-n.invariant c.first-j.ensures c.if-j-n.false c.set_at-heard.ensures c.both-new.ensures c.minus-left.ensures c.without-todo.ensures (c.spread-step.ensures.none c.if-step-n.false) c.spread-step.auto.next
