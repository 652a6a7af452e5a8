-- `checks::rules::body_fault` meets its contract: each early return is a case of the rule.
use Rattle.refusal.proofs.First.{if_false, faults, tests}
use Rattle.checks.specs.Rules.{body_fault}
use borrow.Author.Tests.{eq-eqb}
use Rattle.checks.proofs.rules.body_fault.Goals as goal

pub returns-then-version-ne0 : goal.returns-then-version-ne0
unfolding body_fault
returns-then-version-ne0 c = search (tests, ← c.version.ensures)

pub returns-then-reserved-ne0 : goal.returns-then-reserved-ne0
unfolding body_fault
returns-then-reserved-ne0 c = rw (← c.version.ensures, eq-eqb _ _ c.if-version-ne0.false, if_false) (search faults)

pub returns-then-cue-ne0 : goal.returns-then-cue-ne0
unfolding body_fault
returns-then-cue-ne0 c = rw (← c.version.ensures, eq-eqb _ _ c.if-version-ne0.false, if_false) (search faults)

pub returns : goal.returns
unfolding body_fault
returns c = rw (← c.version.ensures, eq-eqb _ _ c.if-version-ne0.false, if_false) (search faults)
