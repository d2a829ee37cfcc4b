-- `ahead` compares two lines as the rule does: by the cases of the laws of comparison. The products fit since no capacity is above 1,024 and no sum above 4,194,240. Assumes nothing.
use native.Mathlib.Omega.{arith}
use Rattle.fair.proofs.Comparisons.{ahead_under, ahead_first, ahead_smaller, product_fits}
use Rattle.fair.proofs.choice.ahead.Goals as goal

pub returns-then-sums-line : goal.returns-then-sums-line
returns-then-sums-line c = ahead_under _ _ _ _ _ _ c.requires.on_line c.if-sums-line.true

pub returns-then-found-n : goal.returns-then-found-n
returns-then-found-n c = ahead_first _ _ _ _ _ _ c.requires.on_line (omega arith) c.if-found-n.true

pub overflow_sub-result-2 : goal.overflow_sub-result-2
overflow_sub-result-2 c = c.requires.comparable.within _ (omega arith)

pub overflow_mul-result : goal.overflow_mul-result
overflow_mul-result c = omega (arith, product_fits _ _ _ _ c.requires.comparable c.args.line c.args.found c.requires.on_line (omega arith))

pub overflow_mul-result-2 : goal.overflow_mul-result-2
overflow_mul-result-2 c = omega (arith, product_fits _ _ _ _ c.requires.comparable c.args.found c.args.line (omega arith) c.requires.on_line)

pub returns : goal.returns
returns c = ahead_smaller _ _ _ _ _ _ c.requires.on_line (omega arith) (omega arith)
