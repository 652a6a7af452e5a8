-- `needs::table::judged_one` meets its contract: the rows are the paper's lines.
use Rattle.base.specs.Lists.{each}
use Rattle.needs.specs.Required.{required}
use Rattle.needs.specs.inner.Table.{line_read, lines_in}
use Rattle.needs.proofs.Alone.{one_wrong}
use Rattle.needs.proofs.table.judged_one.Goals as goal

pub returns : goal.returns
unfolding required lines_in line_read each
returns c = one_wrong _ required _ _ _ _ c.line_in-need.ensures c.judged_in.ensures
