-- `checks::rules::flags_barred` meets its contract: each early return is a case of the rule.
use borrow.Author.Tests.{not-true, not-false}
use Rattle.std.proofs.lemmas.Bool.{not_from_true, not_from_false}
use Rattle.checks.specs.Rules.{flags_barred}
use Rattle.checks.proofs.rules.flags_barred.Goals as goal

pub returns-then-not-barred : goal.returns-then-not-barred
unfolding flags_barred
returns-then-not-barred c = let a = c.args in rw (not-true a.barred (not_from_false _ c.if-not-barred.true), flags_barred)

pub returns-then-not-removable : goal.returns-then-not-removable
unfolding flags_barred
returns-then-not-removable c = let a = c.args in rw (not-false a.barred (not_from_true _ c.if-not-barred.false), not-true a.removable (not_from_false _ c.if-not-removable.true), flags_barred)

pub returns : goal.returns
unfolding flags_barred
returns c = let a = c.args in rw (not-false a.barred (not_from_true _ c.if-not-barred.false), not-false a.removable (not_from_true _ c.if-not-removable.false), ← c.persistent.ensures, flags_barred)
