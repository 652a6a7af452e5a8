-- `sense::write` meets its contract: 55, or the bytes of the kind.
use Rattle.sense.proofs.Making.{write_short, write_written}
use Rattle.sense.proofs.write.Goals as goal

pub returns-then-out-lt-LENGTH : goal.returns-then-out-lt-LENGTH
returns-then-out-lt-LENGTH c = search write_short

pub returns : goal.returns
returns c = search write_written
