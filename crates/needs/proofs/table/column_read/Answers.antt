-- `needs::table::column_read` meets its contract: each field is what its bits say.
use borrow.Author.Rules.{rules}
use Rattle.needs.specs.inner.Table.{column_read}
use Rattle.needs.proofs.table.column_read.Goals as goal

pub overflow_cast-profile : goal.overflow_cast-profile
unfolding column_read
overflow_cast-profile c = search rules

pub overflow_cast-result : goal.overflow_cast-result
unfolding column_read
overflow_cast-result c = search rules

pub overflow_cast-result-2 : goal.overflow_cast-result-2
unfolding column_read
overflow_cast-result-2 c = search rules

pub returns : goal.returns
unfolding column_read
returns c = search rules
