-- `needs::one::line_in` meets its contract: the loop carries what is left of the walk over the lines.
use mathlib.Core.Path.{ap}
use native.Mathlib.Omega.{arith}
use Rattle.needs.specs.inner.Table.{lines_in}
use Rattle.needs.proofs.Alone.{line_from, line_found, line_next, line_none}
use Rattle.needs.proofs.one.line_in.Goals as goal

pub loop-i-init : goal.loop-i-init
unfolding lines_in
loop-i-init c = (omega arith, ap (line_from c.args.rows.now c.args.mark c.args.feature.0 0) (omega arith))

pub returns-then-is_of : goal.returns-then-is_of
returns-then-is_of c = search line_found

pub loop-i-preserved : goal.loop-i-preserved
loop-i-preserved c = (omega arith, search line_next)

pub returns : goal.returns
returns c = search line_none
