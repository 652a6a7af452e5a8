-- `command::Command::admits` meets its contract: each way is a case of the disjunction.
use borrow.Author.Tests.{eq-eqb, ne_eqb}
use Rattle.command.specs.Command.{command_length}
use Rattle.command.proofs.Command.admits.Goals as goal

pub returns-then-length-eq-LENGTH : goal.returns-then-length-eq-LENGTH
unfolding command_length
returns-then-length-eq-LENGTH c = rw (eq-eqb _ _ c.if-length-eq-LENGTH.true)

pub returns : goal.returns
unfolding command_length
returns c = rw (ne_eqb _ _ c.if-length-eq-LENGTH.false)
