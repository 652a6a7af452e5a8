-- `sweep::Sweep::held_profile` meets its contract: the first response's profile is taken, and kept.
use Rattle.sweep.proofs.Numbers.{held_first, held_kept}
use Rattle.sweep.proofs.Sweep.held_profile.Goals as goal

pub returns-then-self-eq0 : goal.returns-then-self-eq0
returns-then-self-eq0 c = search held_first

pub returns : goal.returns
returns c = search held_kept
