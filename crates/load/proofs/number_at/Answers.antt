-- `load::number_at` meets its contract: behind the end `get_or` gives its default.
use mathlib.Core.Path.{sym}
use lib.ListN.{get_or-eq_default}
use Rattle.load.proofs.number_at.Goals as goal

pub returns : goal.returns
returns c = sym (get_or-eq_default c.args.list.now 0 c.if-i-list.false)
