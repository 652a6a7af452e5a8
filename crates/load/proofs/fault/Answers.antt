-- `load::fault` meets its contract: each early return is a case of the definition.
use Rattle.load.proofs.Checked.{ok, ascending, fault_sheet, fault_order, fault_lacking, fault_none}
use Rattle.load.proofs.fault.Goals as goal

pub returns-then-verdict-ne0 : goal.returns-then-verdict-ne0
returns-then-verdict-ne0 c = fault_sheet _ _ _ c.check-verdict.ensures c.if-verdict-ne0.true

pub returns-then-unordered : goal.returns-then-unordered
returns-then-unordered c = let d = c in
    fault_order _ _ _ d.check-verdict.ensures d.if-verdict-ne0.false c.unordered.ensures c.if-unordered.true

pub lacking-requires : goal.lacking-requires
lacking-requires c = let u = c in
    let d = u in
    (ok _ _ _ d.check-verdict.ensures d.if-verdict-ne0.false u.unordered.ensures, ascending _ _ _ d.check-verdict.ensures d.if-verdict-ne0.false u.unordered.ensures c.if-unordered.false)

pub returns-then-lacking : goal.returns-then-lacking
returns-then-lacking c = let u = c in
    let d = u in
    fault_lacking _ _ _ d.check-verdict.ensures d.if-verdict-ne0.false u.unordered.ensures c.if-unordered.false c.lacking.ensures c.if-lacking.true

pub returns : goal.returns
returns c = let u = c in
    let d = u in
    fault_none _ _ _ d.check-verdict.ensures d.if-verdict-ne0.false u.unordered.ensures c.if-unordered.false c.lacking.ensures c.if-lacking.false
