-- `checks::fault_at` meets its contract: the rules at what stands there.
use Rattle.text.specs.Reading.{desc_at}
use Rattle.checks.proofs.fault_at.Goals as goal

pub returns : goal.returns
unfolding desc_at
returns c = rw (← c.number_at-f.ensures, ← c.flags_at-flags.ensures, ← c.body_at.ensures.holds) c.desc_fault.ensures
