-- `needs::one::free_at` meets its contract: it is too long, or nothing is wrong.
use Rattle.needs.proofs.Alone.{free_long, free_fits}
use Rattle.needs.proofs.one.free_at.Goals as goal

pub returns-then-long_at : goal.returns-then-long_at
returns-then-long_at c = search free_long

pub returns : goal.returns
returns c = search free_fits
