-- `hex_text::other` meets its contract: each early return is a case of the definition. Assumes nothing.
use borrow.Author.Tests.{lt-ltb, le-ltb}
use Rattle.hex_text.proofs.Cases.{Y, N}
use Rattle.hex_text.specs.Steps.{other}
use borrow.Author.Rules.{rules}
use Rattle.hex_text.proofs.other.Goals as goal

pub prefix-requires : goal.prefix-requires
unfolding other
prefix-requires c = search rules

pub returns-then-q-lt16 : goal.returns-then-q-lt16
unfolding other
returns-then-q-lt16 c = Y _ _ _ (lt-ltb _ _ c.if-q-lt16.true) c.prefix.ensures

pub between-requires : goal.between-requires
unfolding other
between-requires c = search rules

pub returns : goal.returns
unfolding other
returns c = N _ _ _ (le-ltb _ _ c.if-q-lt16.false) c.between.ensures
