-- `checks::check_descriptors` meets its contract: each early return is a case of the definition.
use Rattle.checks.specs.Check.{checked}
use Rattle.reading.proofs.Completed.{complete_numbered, number_zero}
use Rattle.checks.proofs.Findings.{next_none, next_call}
use Rattle.checks.proofs.check_descriptors.Goals as goal

pub returns-then-number-ne0 : goal.returns-then-number-ne0
unfolding checked
returns-then-number-ne0 c = search (next_call, complete_numbered)

pub check_all-requires : goal.check_all-requires
check_all-requires c = search number_zero

pub returns : goal.returns
unfolding checked
returns c = search (next_none, number_zero)
