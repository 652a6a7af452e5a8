-- `mend::plan_of` meets its contract: each field is what a call gave.
use Rattle.mend.proofs.plan_of.Goals as goal

pub returns : goal.returns
returns c = cc
