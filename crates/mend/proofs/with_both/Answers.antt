-- `mend::with_both` meets its contract: set or not.
use Rattle.mend.proofs.with_both.Goals as goal

pub returns-then-both : goal.returns-then-both
returns-then-both c = rw c.if-both.true

pub returns : goal.returns
returns c = rw c.if-both.false
