-- `needs::table::line_read` meets its contract: each field is what its bits say.
use borrow.Author.Rules.{rules}
use Rattle.needs.specs.inner.Table.{line_read}
use Rattle.needs.proofs.table.line_read.Goals as goal

pub overflow_cast-feature : goal.overflow_cast-feature
unfolding line_read
overflow_cast-feature c = search rules

pub overflow_cast-result : goal.overflow_cast-result
unfolding line_read
overflow_cast-result c = search rules

pub overflow_cast-result-2 : goal.overflow_cast-result-2
unfolding line_read
overflow_cast-result-2 c = search rules

pub overflow_cast-result-3 : goal.overflow_cast-result-3
unfolding line_read
overflow_cast-result-3 c = search rules

pub overflow_cast-result-4 : goal.overflow_cast-result-4
unfolding line_read
overflow_cast-result-4 c = search rules

pub overflow_cast-result-5 : goal.overflow_cast-result-5
unfolding line_read
overflow_cast-result-5 c = search rules

pub returns : goal.returns
unfolding line_read
returns c = search rules
