-- `layout::put_each` meets its contract: whatever bytes the writer writes of an entry, the loop has written those of the entries passed.
use mathlib.Core.Path.{◌≡◌}
use native.Mathlib.Omega.{arith}
use Rattle.base.specs.Lists.{each, flat}
use Rattle.lent.proofs.Laws.{nothing, then}
use Rattle.layout.specs.Layout.{stored}
use Rattle.layout.specs.Contents.{entry_of}
use Rattle.layout.proofs.Contents.{pieces_more}
use Rattle.layout.proofs.put_each.Goals as goal

pub loop-i-init : goal.loop-i-init
unfolding flat each
loop-i-init g c = λ bytes writes. nothing c.args.out.now c.args.at

pub loop-i-preserved : goal.loop-i-preserved
loop-i-preserved g c = let a = c.args in let l = c.loop-i in λ bytes writes.
    rw (pieces_more bytes (entry_of (stored a.lay a.s.now)) l.i, ← c.entry_in.ensures) (then (l.invariant bytes writes) (writes _ _ _ _ _ c.put-next.ensures))

pub returns : goal.returns
returns g c = let l = c.loop-i in
    let e : c.args.n ≡ l.i = omega arith in
    λ bytes writes. rw e (l.invariant bytes writes)
