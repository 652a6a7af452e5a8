-- `listing::put_hex4` meets its contract: four writings one after the other. Assumes nothing.
use Rattle.lent.proofs.Laws.{then}
use Rattle.listing.specs.Digits.{hex4}
use Rattle.listing.proofs.put_hex4.Goals as goal

pub returns : goal.returns
unfolding hex4
returns c = let early = c in
    then (then (then early.put_digit-a.ensures early.put_digit-b.ensures) c.put_digit-c.ensures) c.put_digit.ensures
