-- `abi::gcf_held` meets its contract: the part that is held, copied. Assumes nothing.
use Rattle.abi.proofs.gcf_held.Goals as goal

pub returns : goal.returns
returns c = rw (← c.held-part.ensures.holds) c.copy.ensures
