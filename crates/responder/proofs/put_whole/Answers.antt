-- `responder::put_whole` meets its contract: the head, and the body behind it where there is one.
use mathlib.Core.Path.{refl}
use Prim.Native.Nat.{◌+◌, ◌-◌}
use native.Mathlib.Omega.{arith}
use lib.ListN.{drop, length-take}
use Rattle.lent.proofs.Laws.{kept}
use Rattle.layout.specs.Layout.{stored}
use Rattle.layout.specs.Contents.{entry_of}
use Rattle.layout.proofs.Heads.{length_head}
use Rattle.responder.proofs.Laws.{whole_head, whole_body}
use Rattle.responder.proofs.put_whole.Goals as goal

pub returns-then-len-eq0 : goal.returns-then-len-eq0
returns-then-len-eq0 c = let a = c.args in rw (whole_head (stored a.nth.lay a.s.now) a.nth.i a.body a.len c.if-len-eq0.true) c.put_head-behind.ensures

pub place4-requires : goal.place4-requires
place4-requires c = let a = c.args in
    let w = c.put_head-behind.ensures in
    (omega (arith, length-take (a.body + 4 - a.body) (drop a.body a.s.now)), omega (arith, w.next, kept w, length_head (entry_of (stored a.nth.lay a.s.now) a.nth.i)))

pub returns-then-len-eq4 : goal.returns-then-len-eq4
returns-then-len-eq4 c = let early = c in
    let a = early.args in
    whole_body (stored a.nth.lay a.s.now) a.nth.i a.body a.len (a.body + 4 - a.body) (omega arith) early.put_head-behind.ensures c.place4.ensures

pub place-requires : goal.place-requires
place-requires c = let a = c.args in
    let w = c.put_head-behind.ensures in
    (omega (arith, w.next, kept w, length_head (entry_of (stored a.nth.lay a.s.now) a.nth.i)), omega arith)

pub returns : goal.returns
returns c = let a = c.args in
    whole_body (stored a.nth.lay a.s.now) a.nth.i a.body a.len a.len refl c.put_head-behind.ensures c.place.ensures
