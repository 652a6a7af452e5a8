-- `sweep::Sweep::scan_rule` meets its contract: the first refusal of the reading and of four rules.
use Rattle.refusal.proofs.First.{tests}
use Rattle.sweep.specs.inner.Numbers.{scan_rule}
use Rattle.sweep.proofs.Sweep.scan_rule.Goals as goal

pub returns-then-fault-ne0 : goal.returns-then-fault-ne0
unfolding scan_rule
returns-then-fault-ne0 c = search tests

pub returns-then-fault-ne0-2 : goal.returns-then-fault-ne0-2
unfolding scan_rule
returns-then-fault-ne0-2 c = search (tests, ← c.most.ensures, ← c.short_rule-fault.ensures)

pub returns-then-fault-ne0-3 : goal.returns-then-fault-ne0-3
unfolding scan_rule
returns-then-fault-ne0-3 c = search (tests, ← c.most.ensures, ← c.short_rule-fault.ensures, ← c.profile_rule-fault.ensures)

pub returns-then-fault-ne0-4 : goal.returns-then-fault-ne0-4
unfolding scan_rule
returns-then-fault-ne0-4 c = search (tests, ← c.most.ensures, ← c.short_rule-fault.ensures, ← c.profile_rule-fault.ensures, ← c.cut_rule-fault.ensures)

pub returns : goal.returns
unfolding scan_rule
returns c = search (tests, ← c.most.ensures, ← c.short_rule-fault.ensures, ← c.profile_rule-fault.ensures, ← c.cut_rule-fault.ensures, ← c.behind_header.ensures)
