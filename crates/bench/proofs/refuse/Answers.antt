-- `bench::refuse` meets its contract: all three buffers are set to zero.
use Rattle.bench.specs.Bench.{zeros, failing}
use Rattle.bench.proofs.refuse.Goals as goal

pub returns : goal.returns
unfolding failing zeros
returns c = rw (c.clear.ensures, c.clear-2.ensures, c.clear_list.ensures)
