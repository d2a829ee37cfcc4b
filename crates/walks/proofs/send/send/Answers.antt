-- `walks::send::send` meets its contract: one column lacks what is sent, and the columns ahead are as they were. Assumes nothing.
use native.Mathlib.Omega.{arith}
use Prim.Native.Nat.{◌+◌, ◌-◌}
use mathlib.Core.Path.{◌≡◌, refl}
use Rattle.walks.proofs.Sends.{send_end, send_less, send_step}
use Rattle.walks.proofs.send.send.Goals as goal

pub less-requires-clause-can_less : goal.less-requires-clause-can_less
less-requires-clause-can_less c =
    let at-k : c.loop-k.k - 1 + 1 ≡ c.loop-k.k = omega arith in
    let gave = rw (c.byte-i.ensures.0, c.byte.ensures.0, at-k) at c.more.ensures in
    rw (c.byte-i.ensures.0, c.byte-in-loop-k.ensures.0, at-k) (send_less c.requires c.loop-k.invariant gave _ at-k)

pub loop-k-preserved : goal.loop-k-preserved
loop-k-preserved c =
    let at-k : c.loop-k.k - 1 + 1 ≡ c.loop-k.k = omega arith in
    let gave = rw (c.byte-i.ensures.0, c.byte.ensures.0, at-k) at c.more.ensures in
    send_step c.requires c.loop-k.invariant gave _ at-k (rw (c.byte-i.ensures.0, c.byte-in-loop-k.ensures.0, at-k) at (c.less.ensures c.args.bound.now c.more.ensures.sides))

pub returns : goal.returns
returns c =
    let none : c.loop-k.k ≡ 0 = omega arith in
    send_end c.requires (rw none at c.loop-k.invariant) (rw (c.byte-2.ensures.0, c.byte-3.ensures.0) at c.more-2.ensures) refl
