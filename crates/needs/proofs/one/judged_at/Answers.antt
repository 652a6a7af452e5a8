-- `needs::one::judged_at` meets its contract: its line has the mark, or it has not.
use Rattle.needs.proofs.Alone.{by_line, by_none}
use Rattle.needs.proofs.one.judged_at.Goals as goal

pub returns-then-is_marked : goal.returns-then-is_marked
returns-then-is_marked c = search by_line

pub returns : goal.returns
returns c = search by_none
