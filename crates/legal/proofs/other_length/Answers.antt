-- `legal::other_length` meets its contract: each way is a case of the disjunction.
use Rattle.legal.proofs.other_length.Goals as goal

pub returns-then-too_short : goal.returns-then-too_short
returns-then-too_short c = rw (← c.too_short.ensures, c.if-too_short.true)

pub returns : goal.returns
returns c = rw (← c.too_short.ensures, c.if-too_short.false) c.too_long.ensures
