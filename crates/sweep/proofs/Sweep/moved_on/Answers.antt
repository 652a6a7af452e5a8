-- `sweep::Sweep::moved_on` meets its contract: a complete response keeps the next start, a cut one moves it.
use native.Mathlib.Omega.{arith}
use Rattle.sweep.proofs.Numbers.{moved_complete, moved_cut}
use Rattle.sweep.proofs.Sweep.moved_on.Goals as goal

pub returns-then-reading : goal.returns-then-reading
returns-then-reading c = moved_complete _ _ _ _ _ _ c.held_profile-profile.ensures c.if-reading.true

pub overflow_add-next : goal.overflow_add-next
overflow_add-next c = omega (arith, c.requires.1 c.if-reading.false)

pub returns : goal.returns
returns c = moved_cut _ _ _ _ _ _ c.held_profile-profile.ensures c.if-reading.false
