-- `import::import` meets its contract: the refusal, 42, or the sheet.
use native.Mathlib.Omega.{arith}
use Rattle.import.proofs.Written.{import_refused, import_heads, import_short, import_room, import_written}
use Rattle.import.proofs.import.Goals as goal

pub returns-then-fault-ne0 : goal.returns-then-fault-ne0
returns-then-fault-ne0 c = import_refused _ _ c.check-capture.ensures _ _ c.refused.ensures c.if-fault-ne0.true

pub overflow_sub-response : goal.overflow_sub-response
overflow_sub-response c = import_heads _ _ c.check-capture.ensures c.if-fault-ne0.false

pub returns-then-sheet-profiles_behind : goal.returns-then-sheet-profiles_behind
returns-then-sheet-profiles_behind c = import_short _ _ c.check-capture.ensures c.if-fault-ne0.false (λ i. omega (arith, c.type_inv.response i)) _ _ c.profiles_behind.ensures c.if-sheet-profiles_behind.true _ c.refused-then-sheet-profiles_behind.ensures

pub put_sheet-requires : goal.put_sheet-requires
put_sheet-requires c = import_room _ _ c.check-capture.ensures c.if-fault-ne0.false (λ i. omega (arith, c.type_inv.response i)) _ _ c.profiles_behind.ensures c.if-sheet-profiles_behind.false

pub returns : goal.returns
returns c = import_written _ _ c.check-capture.ensures c.if-fault-ne0.false (λ i. omega (arith, c.type_inv.response i)) _ _ c.profiles_behind.ensures c.if-sheet-profiles_behind.false _ c.written.ensures c.put_sheet.ensures
