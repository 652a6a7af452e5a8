-- `command::Command::fault` meets its contract: each early return is a case of the definition.
use Rattle.refusal.proofs.First.{tests}
use Rattle.command.specs.Command.{command_fault, opcode_of, rt_of}
use Rattle.command.proofs.Command.fault.Goals as goal

pub returns-then-not-admits : goal.returns-then-not-admits
unfolding command_fault
returns-then-not-admits c = search (tests, ← c.admits.ensures, c.if-not-admits.true)

pub returns-then-byte-ne-OPCODE : goal.returns-then-byte-ne-OPCODE
unfolding command_fault opcode_of
returns-then-byte-ne-OPCODE c = search (tests, ← c.admits.ensures, c.if-not-admits.false, ← c.byte.ensures)

pub returns-then-byte-eq3 : goal.returns-then-byte-eq3
unfolding command_fault opcode_of rt_of
returns-then-byte-eq3 c = let b = c in
    search (tests, ← b.admits.ensures, b.if-not-admits.false, ← c.byte-2.ensures, ← b.byte.ensures)

pub returns : goal.returns
unfolding command_fault opcode_of rt_of
returns c = let b = c in
    search (tests, ← b.admits.ensures, b.if-not-admits.false, ← c.byte-2.ensures, ← b.byte.ensures)
