-- `reading::header_rule` meets its contract: each early return is a case of the rule.
use Rattle.refusal.proofs.First.{tests}
use Rattle.text.specs.Reading.{header_rule}
use borrow.Author.Rules.{rules}
use Rattle.reading.proofs.header_rule.Goals as goal

pub returns-then-rt-gt2 : goal.returns-then-rt-gt2
unfolding header_rule
returns-then-rt-gt2 c = search tests

pub returns-then-received-lt-LENGTH : goal.returns-then-received-lt-LENGTH
unfolding header_rule
returns-then-received-lt-LENGTH c = search tests

pub returns-then-received-gt-RETURN_LIMIT : goal.returns-then-received-gt-RETURN_LIMIT
unfolding header_rule
returns-then-received-gt-RETURN_LIMIT c = search tests

pub returns-then-stated-lt4 : goal.returns-then-stated-lt4
unfolding header_rule
returns-then-stated-lt4 c = search tests

pub returns-then-stated-ne0 : goal.returns-then-stated-ne0
unfolding header_rule
returns-then-stated-ne0 c = search tests

pub overflow_add-stated : goal.overflow_add-stated
unfolding header_rule
overflow_add-stated c = search rules

pub returns-then-stated-received : goal.returns-then-stated-received
unfolding header_rule
returns-then-stated-received c = search tests

pub returns-then-limit-received : goal.returns-then-limit-received
unfolding header_rule
returns-then-limit-received c = search tests

pub returns : goal.returns
unfolding header_rule
returns c = search tests
