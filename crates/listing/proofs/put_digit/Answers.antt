-- `listing::put_digit` meets its contract: the digit is put. Assumes nothing.
use Rattle.listing.proofs.put_digit.Goals as goal

pub returns : goal.returns
returns c = rw (← c.digit.ensures) c.put.ensures
