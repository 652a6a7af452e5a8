-- `needs::walk::step_at` meets its contract: another number, a descriptor that fits, and one that does not.
use mathlib.Core.Path.{sym}
use Rattle.needs.proofs.Resumed.{step_absent, step_on, step_off}
use Rattle.needs.proofs.walk.step_at.Goals as goal

pub returns-then-number-feature : goal.returns-then-number-feature
returns-then-number-feature c = sym (search step_absent)

pub returns-in-Fits : goal.returns-in-Fits
returns-in-Fits c = rw c.next_at.ensures (search step_on)

pub returns-in-Lacks : goal.returns-in-Lacks
returns-in-Lacks c = search step_off
