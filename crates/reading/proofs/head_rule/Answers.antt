-- `reading::head_rule` meets its contract: each early return is a case of the rule.
use Rattle.refusal.proofs.First.{tests}
use Rattle.text.specs.Reading.{head_rule}
use borrow.Author.Rules.{rules}
use Rattle.reading.proofs.head_rule.Goals as goal

pub returns-then-len-ne0 : goal.returns-then-len-ne0
unfolding head_rule
returns-then-len-ne0 c = search tests

pub overflow_cast-number : goal.overflow_cast-number
unfolding head_rule
overflow_cast-number c = search rules

pub returns-then-number-lo : goal.returns-then-number-lo
unfolding head_rule
returns-then-number-lo c = search tests

pub other_feature-requires : goal.other_feature-requires
unfolding head_rule
other_feature-requires c = search rules

pub returns-then-other_feature : goal.returns-then-other_feature
unfolding head_rule
returns-then-other_feature c = search (tests, ← c.other_feature.ensures, c.if-other_feature.true)

pub not_current-requires : goal.not_current-requires
unfolding head_rule
not_current-requires c = search rules

pub returns-then-not_current : goal.returns-then-not_current
unfolding head_rule
returns-then-not_current c = search (tests, ← c.other_feature.ensures, c.if-other_feature.false, ← c.not_current.ensures, c.if-not_current.true)

pub overflow_add-at : goal.overflow_add-at
unfolding head_rule
overflow_add-at c = search rules

pub overflow_add-at-2 : goal.overflow_add-at-2
unfolding head_rule
overflow_add-at-2 c = search rules

pub returns-then-end-at : goal.returns-then-end-at
unfolding head_rule
returns-then-end-at c = search (tests, ← c.other_feature.ensures, c.if-other_feature.false, ← c.not_current.ensures, c.if-not_current.false)

pub returns : goal.returns
unfolding head_rule
returns c = search (tests, ← c.other_feature.ensures, c.if-other_feature.false, ← c.not_current.ensures, c.if-not_current.false)
