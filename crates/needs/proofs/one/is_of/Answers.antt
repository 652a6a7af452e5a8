-- `needs::one::is_of` meets its contract: each early return is a case of the definition.
use Rattle.needs.proofs.Alone.{and_yes, and_no}
use Rattle.needs.proofs.one.is_of.Goals as goal

pub returns-then-is_marked : goal.returns-then-is_marked
returns-then-is_marked c = search and_yes

pub returns : goal.returns
returns c = search and_no
