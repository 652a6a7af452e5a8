-- `needs::table::column_in` meets its contract: the loop carries what is left of the walk over the columns.
use mathlib.Core.Path.{ap}
use native.Mathlib.Omega.{arith}
use Rattle.needs.specs.inner.Table.{column_in}
use Rattle.needs.proofs.Columns.{column_from, column_found, column_next, column_none}
use Rattle.needs.proofs.table.column_in.Goals as goal

pub loop-i-init : goal.loop-i-init
unfolding column_in
loop-i-init c = (omega arith, ap (column_from c.args.rows.now c.args.profile.0 0) (omega arith))

pub returns-then-column-profile : goal.returns-then-column-profile
returns-then-column-profile c = search column_found

pub loop-i-preserved : goal.loop-i-preserved
loop-i-preserved c = (omega arith, search column_next)

pub returns : goal.returns
returns c = search column_none
