-- `program_room::answer_of` meets its contract: the buffer is as long as the longest answer. Assumes nothing.
use Rattle.std.proofs.Common.{◌∙◌, ◌≤◌, length, arith}
use Rattle.program_io.proofs.Counted.{counted}
use Rattle.layout.specs.Layout.{stored}
use Rattle.program_room.proofs.Asked.{asked, asked_count}
use Rattle.program_room.proofs.answer_of.Goals as goal

pub returns-clause-prefix_len : goal.returns-clause-prefix_len
returns-clause-prefix_len c =
    let a = c.args in
    let i = c.respond in
    let h : i.result.count ≤ length i.new.out = rw (← i.ensures) at (asked_count (stored a.lay a.sheet.now) a.command.now a.response.now (omega arith)) in
    counted i.result.count i.new.out h

pub returns-clause-response_after : goal.returns-clause-response_after
returns-clause-response_after c =
    let a = c.args in
    c.respond.ensures ∙ asked (stored a.lay a.sheet.now) a.command.now a.response.now (omega arith)
