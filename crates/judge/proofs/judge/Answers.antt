-- `judge::judge` meets its contract: the refusals in their order, or what is said of a request.
use mathlib.Core.Path.{sym, ap, ◌∙◌}
use native.Mathlib.Omega.{arith}
use Rattle.layout.specs.Layout.{stored}
use Rattle.judge.proofs.Search.{judged_sheet, judged_command, judged_room, judged_asked}
use Rattle.judge.proofs.judge.Goals as goal

pub returns-then-bad-ne0 : goal.returns-then-bad-ne0
returns-then-bad-ne0 c = let a = c.args in
    judged_sheet (stored a.lay a.s.now) a.command.now a.response.now a.scratch.now _ c.check-bad.ensures c.if-bad-ne0.true

pub returns-then-fault-ne0 : goal.returns-then-fault-ne0
returns-then-fault-ne0 c = let a = c.args in
    judged_command (stored a.lay a.s.now) a.command.now a.response.now a.scratch.now _ c.check-bad.ensures c.if-bad-ne0.false _ _ c.fault-fault.ensures c.if-fault-ne0.true c.unasked.ensures

pub returns-then-scratch-most : goal.returns-then-scratch-most
returns-then-scratch-most c = let f = c in
    let a = f.args in
    judged_room (stored a.lay a.s.now) a.command.now a.response.now a.scratch.now _ f.check-bad.ensures f.if-bad-ne0.false _ c.fault-fault.ensures c.if-fault-ne0.false _ c.read-c.ensures _ c.most.ensures c.if-scratch-most.true

pub requested-requires : goal.requested-requires
requested-requires c = (sym (ap (λ r. r.number) c.check-bad.ensures) ∙ c.if-bad-ne0.false, omega (arith, c.if-scratch-most.false, c.most.ensures))

pub returns : goal.returns
returns c = let f = c in
    let a = f.args in
    judged_asked (stored a.lay a.s.now) a.command.now a.response.now a.scratch.now _ f.check-bad.ensures f.if-bad-ne0.false _ c.fault-fault.ensures c.if-fault-ne0.false _ c.read-c.ensures _ c.most.ensures c.if-scratch-most.false _
    c.requested.ensures
