-- `lent::put4` meets its contract: all at once, or the number spelt in two halves, one writing after the other.
use mathlib.Core.Path.{sym, ◌∙◌}
use borrow.Author.Tests.{leb-true}
use Rattle.fields.proofs.Laws.{spell_split, spell_mod}
use Rattle.lent.proofs.Laws.{then}
use Rattle.lent.proofs.put4.Goals as goal

pub set4-requires : goal.set4-requires
set4-requires c = leb-true _ _ (sym c.has4.ensures ∙ c.if-has4.true)

pub returns : goal.returns
returns c = rw (spell_split 2 2, ← spell_mod 2 c.args.v) (search then)
