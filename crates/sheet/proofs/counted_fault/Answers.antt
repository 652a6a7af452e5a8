-- `sheet::counted_fault` meets its contract: each early return is a case of the definition.
use Rattle.refusal.proofs.First.{tests}
use Rattle.sheet.specs.Check.{counted}
use Rattle.sheet.proofs.Laws.{few_records}
use Rattle.sheet.proofs.counted_fault.Goals as goal

pub returns-then-p-gt63 : goal.returns-then-p-gt63
unfolding counted
returns-then-p-gt63 c = search tests

pub returns-then-profiles-ne0 : goal.returns-then-profiles-ne0
unfolding counted
returns-then-profiles-ne0 c = search (tests, ← few_records _ _ _ _ c.requires.1 c.if-p-gt63.false c.profiles_part.ensures.holds c.fault-profiles.ensures, ← c.profiles_part.ensures.holds)

pub returns : goal.returns
unfolding counted
returns c = search (tests, ← c.contents_fault.ensures, ← few_records _ _ _ _ c.requires.1 c.if-p-gt63.false c.profiles_part.ensures.holds c.fault-profiles.ensures, ← c.profiles_part.ensures.holds)
