-- `hex_text::value` meets its contract: each early return is a case of the definition. Assumes nothing.
use Rattle.hex_text.proofs.Cases.{tests}
use Rattle.hex_text.specs.Chars.{value}
use borrow.Author.Rules.{rules}
use Rattle.hex_text.proofs.value.Goals as goal

pub returns-then-c-lt48 : goal.returns-then-c-lt48
unfolding value
returns-then-c-lt48 c = search tests

pub returns-then-c-lt58 : goal.returns-then-c-lt58
unfolding value
returns-then-c-lt58 c = search tests

pub returns-then-c-lt65 : goal.returns-then-c-lt65
unfolding value
returns-then-c-lt65 c = search tests

pub overflow_sub-result-then-c-lt71 : goal.overflow_sub-result-then-c-lt71
unfolding value
overflow_sub-result-then-c-lt71 c = search rules

pub returns-then-c-lt71 : goal.returns-then-c-lt71
unfolding value
returns-then-c-lt71 c = search tests

pub returns-then-c-lt97 : goal.returns-then-c-lt97
unfolding value
returns-then-c-lt97 c = search tests

pub overflow_sub-result-then-c-lt103 : goal.overflow_sub-result-then-c-lt103
unfolding value
overflow_sub-result-then-c-lt103 c = search rules

pub returns-then-c-lt103 : goal.returns-then-c-lt103
unfolding value
returns-then-c-lt103 c = search tests

pub returns : goal.returns
unfolding value
returns c = search tests
