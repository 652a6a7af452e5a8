-- `needs::one::judged_absent` meets its contract: it is needed, or it is not.
use Rattle.needs.proofs.Alone.{none_needed, none_free}
use Rattle.needs.proofs.one.judged_absent.Goals as goal

pub returns-then-is_marked : goal.returns-then-is_marked
returns-then-is_marked c = search none_needed

pub returns : goal.returns
returns c = search none_free
