-- `sheet::entries_fault` meets its contract: the loop carries what is left of the search, and what the entry before leaves for the next.
use Rattle.layout.specs.Layout.{stored}
use mathlib.Core.Path.{◌≡◌, refl}
use native.Mathlib.Omega.{arith}
use Rattle.refusal.specs.First.{first_of}
use Rattle.refusal.proofs.First.{tests, first_start, first_stop, first_go}
use Rattle.sheet.specs.Check.{number_before, end_before_entry, entry_fault}
use Rattle.sheet.proofs.Laws.{carried, next_number, next_end, behind_last}
use Rattle.sheet.proofs.entries_fault.Goals as goal

pub loop-i-init : goal.loop-i-init
unfolding number_before end_before_entry
loop-i-init c = (omega arith, search first_start, refl, c.bodies_at-end.ensures)

pub returns-then-fault-ne0 : goal.returns-then-fault-ne0
returns-then-fault-ne0 c = let a = c.args in
    let e : c.placed-fault.result ≡ first_of (entry_fault (stored a.lay a.s.now)) 0 a.n = search (first_stop, carried) in
    search (tests, ← e)

pub loop-i-preserved : goal.loop-i-preserved
loop-i-preserved c = (omega arith, search (first_go, carried), search next_number, search next_end)

pub returns-then-s-end : goal.returns-then-s-end
returns-then-s-end c = let a = c.args in let l = c.loop-i in rw (behind_last (stored a.lay a.s.now) a.n l.i l.end l.invariant.1 l.invariant.3 l.invariant.0 (omega arith)) (search tests)

pub returns : goal.returns
returns c = let a = c.args in let l = c.loop-i in rw (behind_last (stored a.lay a.s.now) a.n l.i l.end l.invariant.1 l.invariant.3 l.invariant.0 (omega arith)) (search tests)
