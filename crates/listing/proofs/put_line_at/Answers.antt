-- `listing::put_line_at` meets its contract: the line of the fields that stand at the place. Assumes nothing.
use Rattle.listing.proofs.put_line_at.Goals as goal

pub returns : goal.returns
returns c = rw (← c.number_at-feature.ensures, ← c.flags_at-flags.ensures, ← c.length_at-len.ensures) c.put_line.ensures
