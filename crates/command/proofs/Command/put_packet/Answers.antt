-- `command::Command::put_packet` meets its contract: three words one after the other.
use Rattle.lent.proofs.Laws.{then, written_as}
use Rattle.command.proofs.Built.{packet_words}
use borrow.Author.Rules.{rules}
use Rattle.command.proofs.Command.put_packet.Goals as goal

pub returns : goal.returns
returns c = let second = c in
    let first = second in
    written_as (packet_words _ _ _ (search rules) (search rules) (search rules)) (then (then first.put4-a.ensures second.put4-b.ensures) c.put4.ensures)
