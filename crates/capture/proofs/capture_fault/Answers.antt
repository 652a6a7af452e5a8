-- `capture::capture_fault` meets its contract: each early return is a case of the definition.
use Rattle.capture.proofs.Faults.{capture_refused, capture_own, own_there, own_most, own_odd, capture_sheet}
use Rattle.capture.proofs.capture_fault.Goals as goal

pub returns-then-refused-ne0 : goal.returns-then-refused-ne0
returns-then-refused-ne0 c = search capture_refused

pub returns-then-own-ne0 : goal.returns-then-own-ne0
returns-then-own-ne0 c = search capture_own

pub sheet_fault-requires : goal.sheet_fault-requires
sheet_fault-requires c = (
  own_there c.args.s.now c.args.read c.requires.0 c.if-refused-ne0.false _ c.own_fault-own.ensures c.if-own-ne0.false,
  own_most c.args.s.now c.args.read c.requires.0 c.if-refused-ne0.false _ c.own_fault-own.ensures,
  own_odd c.args.s.now c.args.read c.requires.0 c.if-refused-ne0.false _ c.own_fault-own.ensures _ c.requires.1,
)

pub returns : goal.returns
returns c = search capture_sheet
