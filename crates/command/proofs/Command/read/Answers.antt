-- `command::Command::read` meets its contract: each field is read where the command has it.
use Rattle.command.specs.Command.{command_of, rt_of, sfn_of, allocation_of}
use borrow.Author.Rules.{rules}
use Rattle.command.proofs.Command.read.Goals as goal

pub byte-requires : goal.byte-requires
unfolding command_of rt_of sfn_of allocation_of
byte-requires c = search rules

pub get2-requires : goal.get2-requires
unfolding command_of rt_of sfn_of allocation_of
get2-requires c = search rules

pub get2-requires-2 : goal.get2-requires-2
unfolding command_of rt_of sfn_of allocation_of
get2-requires-2 c = search rules

pub returns : goal.returns
unfolding command_of rt_of sfn_of allocation_of
returns c = cc
