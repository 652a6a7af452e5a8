-- `hex_text::digit` meets its contract: each early return is a case of the definition. Assumes nothing.
use Rattle.hex_text.proofs.Cases.{tests}
use Rattle.hex_text.specs.Steps.{digit}
use borrow.Author.Rules.{rules}
use Rattle.hex_text.proofs.digit.Goals as goal

pub overflow_mul-result : goal.overflow_mul-result
unfolding digit
overflow_mul-result c = search rules

pub overflow_add-result : goal.overflow_add-result
unfolding digit
overflow_add-result c = search rules

pub returns-then-half-lt16 : goal.returns-then-half-lt16
unfolding digit
returns-then-half-lt16 c = search tests

pub on-requires : goal.on-requires
unfolding digit
on-requires c = search rules

pub returns : goal.returns
unfolding digit
returns c = search tests
