-- `listing::put_decimal` meets its contract: a single digit, or the digits of a tenth and one more. The measure is the number. Assumes nothing.
use Rattle.lent.proofs.Laws.{then}
use Rattle.listing.proofs.Decimal.{decimal_one, decimal_more}
use Rattle.listing.proofs.+put_decimal.Goals as goal

pub returns-then-n-lt10 : goal.returns-then-n-lt10
returns-then-n-lt10 t c = rw (decimal_one c.args.n c.if-n-lt10.true) c.put_digit.ensures

pub returns : goal.returns
returns t c = rw (decimal_more c.args.n c.if-n-lt10.false) (then c.put_decimal-a.ensures c.put_digit-2.ensures)
