-- `listing::digit` meets its contract: the two kinds of digits. Assumes nothing.
use mathlib.Core.Path.{sym}
use Rattle.listing.proofs.Decimal.{digit_low, digit_high}
use Rattle.listing.proofs.digit.Goals as goal

pub returns-then-d-lt10 : goal.returns-then-d-lt10
returns-then-d-lt10 c = sym (search digit_low)

pub returns : goal.returns
returns c = sym (search digit_high)
