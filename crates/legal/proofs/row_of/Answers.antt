-- `legal::row_of` meets its contract: no row is above the last one, and else the table has it.
use mathlib.Core.Path.{sym}
use Rattle.legal.specs.Legal.{other}
use Rattle.legal.proofs.Rows.{row_above}
use Rattle.legal.proofs.row_of.Goals as goal

pub returns-then-f : goal.returns-then-f
unfolding other
returns-then-f c = sym (row_above c.args.f.0 c.if-f.true)
