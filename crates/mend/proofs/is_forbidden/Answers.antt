-- `mend::is_forbidden` meets its contract: not set, set alone, barred or not.
use Rattle.mend.proofs.Steps.{forbidden_unset, forbidden_alone, forbidden_both}
use Rattle.mend.proofs.is_forbidden.Goals as goal

pub returns-then-not-persistent : goal.returns-then-not-persistent
returns-then-not-persistent c = search forbidden_unset

pub returns-then-not-current : goal.returns-then-not-current
returns-then-not-current c = search forbidden_alone

pub returns : goal.returns
returns c = search forbidden_both
