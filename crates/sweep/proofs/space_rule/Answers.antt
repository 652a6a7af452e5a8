-- `sweep::space_rule` meets its contract: each early return is a case of the rule.
use native.Mathlib.Omega.{arith}
use Rattle.sweep.proofs.Numbers.{space_full, space_free}
use Rattle.sweep.proofs.space_rule.Goals as goal

pub returns-then-room-collected : goal.returns-then-room-collected
returns-then-room-collected c = space_full _ _ _ (omega arith)

pub returns-then-room-collected-2 : goal.returns-then-room-collected-2
returns-then-room-collected-2 c = space_full _ _ _ (omega arith)

pub returns : goal.returns
returns c = space_free _ _ _ (omega arith)
