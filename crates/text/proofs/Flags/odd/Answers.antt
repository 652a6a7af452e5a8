-- `text::Flags::odd` meets its contract: each way is a case of the disjunction.
use borrow.Author.Tests.{eq-eqb, ne_eqb}
use Rattle.text.proofs.Flags.odd.Goals as goal

pub returns-then-reserved-ne0 : goal.returns-then-reserved-ne0
returns-then-reserved-ne0 c = rw (← c.reserved.ensures, ne_eqb _ _ c.if-reserved-ne0.true)

pub returns : goal.returns
returns c = rw (← c.reserved.ensures, eq-eqb _ _ c.if-reserved-ne0.false) c.alone.ensures
