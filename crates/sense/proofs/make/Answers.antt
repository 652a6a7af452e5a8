-- `sense::make` meets its contract: 54, or the bytes of the number's kind.
use Rattle.sense.proofs.Making.{make_other, make_kind}
use Rattle.sense.proofs.make.Goals as goal

pub returns-in-Refused : goal.returns-in-Refused
returns-in-Refused c = search make_other

pub returns-in-Means : goal.returns-in-Means
returns-in-Means c = search make_kind
