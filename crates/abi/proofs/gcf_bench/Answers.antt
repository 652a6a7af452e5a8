-- `abi::gcf_bench` meets its contract: what the bench sweep answers, and its two counts and its place told. Assumes nothing.
use Rattle.abi.specs.Left.{show_benched}
use mathlib.Core.Path.{ap}
use Rattle.abi.proofs.gcf_bench.Goals as goal

pub returns : goal.returns
unfolding show_benched
returns c = ap show_benched (rw c.layout_of.ensures at c.bench-end.ensures)
