-- `checks::check_all` meets its contract: each early return is a case of the definition.
use borrow.Author.Tests.{not-true, not-false}
use Rattle.checks.specs.Check.{checked_all}
use Rattle.checks.proofs.Findings.{core_missing, core_there}
use Rattle.refusal.proofs.Calls.{call_true, call_false}
use borrow.Author.Rules.{rules}
use Rattle.checks.proofs.check_all.Goals as goal

pub reports-requires : goal.reports-requires
unfolding checked_all
reports-requires c = search rules

pub returns-then-not-reports : goal.returns-then-not-reports
unfolding checked_all
returns-then-not-reports c = search (core_missing, call_false, not-true)

pub reports-requires-2 : goal.reports-requires-2
unfolding checked_all
reports-requires-2 c = search rules

pub returns-then-not-reports-2 : goal.returns-then-not-reports-2
unfolding checked_all
returns-then-not-reports-2 c = search (core_missing, core_there, call_true, call_false, not-true, not-false)

pub reports-requires-3 : goal.reports-requires-3
unfolding checked_all
reports-requires-3 c = search rules

pub first_fault-requires : goal.first_fault-requires
unfolding checked_all
first_fault-requires c = search rules

pub returns : goal.returns
unfolding checked_all
returns c = search (core_there, call_true, not-false, ← c.reports-3.ensures)
