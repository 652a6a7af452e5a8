-- `program_room::sheet_of` meets its contract: the buffer is as long as the longest sheet. Assumes nothing.
use Rattle.std.proofs.Common.{◌∙◌, ◌≤◌, length, arith}
use Rattle.program_io.proofs.Counted.{counted}
use Rattle.program_room.proofs.Longest.{Answered, answered}
use Rattle.program_room.proofs.sheet_of.Goals as goal

pub returns-clause-prefix_len : goal.returns-clause-prefix_len
returns-clause-prefix_len c =
    let a = c.args in
    let i = c.import in
    let x : Answered a.s.now a.sheet.now = answered a.s.now (λ j. omega (arith, c.type_inv.s j)) a.sheet.now (omega arith) in
    let h : i.result.count ≤ length i.new.sheet = rw (← i.ensures) at x.count in
    counted i.result.count i.new.sheet h

pub returns-clause-sheet_after : goal.returns-clause-sheet_after
returns-clause-sheet_after c =
    let a = c.args in
    let x : Answered a.s.now a.sheet.now = answered a.s.now (λ j. omega (arith, c.type_inv.s j)) a.sheet.now (omega arith) in
    c.import.ensures ∙ x.whole
