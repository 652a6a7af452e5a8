-- `needs::table::lowest_broken` meets its contract: the rows are the paper's lines.
use Rattle.base.specs.Lists.{each}
use Rattle.needs.specs.Required.{required}
use Rattle.needs.specs.Judge.{lowest}
use Rattle.needs.specs.inner.Table.{line_read, lines_in}
use Rattle.needs.proofs.table.lowest_broken.Goals as goal

pub lowest_in-requires : goal.lowest_in-requires
unfolding required lines_in line_read each
lowest_in-requires c = c.requires

pub returns : goal.returns
unfolding lowest required lines_in line_read each
returns c = c.lowest_in.ensures
