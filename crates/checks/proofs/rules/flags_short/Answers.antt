-- `checks::rules::flags_short` meets its contract: each early return is a case of the rule.
use borrow.Author.Tests.{le-leb, lt-leb}
use mathlib.Core.Path.{sym, ◌∙◌}
use Rattle.checks.specs.Rules.{flags_short}
use Rattle.checks.proofs.rules.flags_short.Goals as goal

pub returns-then-f-gt3 : goal.returns-then-f-gt3
unfolding flags_short
returns-then-f-gt3 c = rw (lt-leb _ _ c.if-f-gt3.true, flags_short)

pub returns-then-not-persistent : goal.returns-then-not-persistent
unfolding flags_short
returns-then-not-persistent c = rw (le-leb _ _ c.if-f-gt3.false, sym c.persistent.ensures ∙ c.if-not-persistent.true, flags_short)

pub returns : goal.returns
unfolding flags_short
returns c = rw (le-leb _ _ c.if-f-gt3.false, sym c.persistent.ensures ∙ c.if-not-persistent.false, ← c.current.ensures, flags_short)
