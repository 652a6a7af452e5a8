-- `needs::table::column_of` meets its contract: the rows are the paper's columns.
use borrow.Author.Rules.{rules}
use Rattle.base.specs.Lists.{each}
use Rattle.needs.specs.Required.{columns, column_of}
use Rattle.needs.specs.inner.Table.{column_read, column_in}
use Rattle.needs.proofs.table.column_of.Goals as goal

pub slice_bounds-column_in-end : goal.slice_bounds-column_in-end
unfolding column_of columns column_in column_read each
slice_bounds-column_in-end c = search rules

pub column_in-requires : goal.column_in-requires
unfolding column_of columns column_in column_read each
column_in-requires c = search rules

pub returns : goal.returns
unfolding column_of columns column_in column_read each
returns c = c.column_in.ensures
