-- `sheet::all_follow` meets its contract: the loop carries what the entries before the index show, and what the last of them leaves for the next.
use mathlib.Core.Path.{refl}
use native.Mathlib.Omega.{arith}
use Rattle.sheet.specs.Check.{number_before, end_before_entry}
use Rattle.sheet.specs.inner.Glance.{every}
use Rattle.sheet.proofs.Laws.{next_number, next_end}
use Rattle.sheet.proofs.Glance.{lates_next, apart_next, following_end}
use Rattle.sheet.proofs.all_follow.Goals as goal

pub loop-i-init : goal.loop-i-init
unfolding every number_before end_before_entry
loop-i-init c = (omega arith, omega arith, refl, refl, refl, c.bodies_at-end.ensures)

pub loop-i-preserved : goal.loop-i-preserved
loop-i-preserved c = let l = c.loop-i in
    let h = c.entry_in-e.ensures in
    let r = c.late-lates in
    (omega arith, omega arith, lates_next _ _ _ h l.lates r.result _ l.invariant.2 l.invariant.4 r.ensures.0, apart_next _ _ _ h l.apart _ l.invariant.3 l.invariant.5, search next_number, search next_end)

pub returns : goal.returns
returns c = let l = c.loop-i in following_end _ _ _ _ _ _ l.invariant.2 l.invariant.3 l.invariant.5 l.invariant.0 (omega arith)
