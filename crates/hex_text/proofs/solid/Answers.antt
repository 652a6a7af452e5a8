-- `hex_text::solid` meets its contract: each early return is a case of the definition. Assumes nothing.
use borrow.Author.Tests.{eq-eqb, ne_eqb}
use Rattle.hex_text.proofs.Cases.{calls}
use Rattle.hex_text.specs.Chars.{is_a}
use borrow.Author.Rules.{rules}
use Rattle.hex_text.proofs.solid.Goals as goal

pub blank-requires : goal.blank-requires
unfolding is_a
blank-requires c = search rules

pub returns-then-blank : goal.returns-then-blank
unfolding is_a
returns-then-blank c = search (calls, eq-eqb, ne_eqb)

pub returns : goal.returns
unfolding is_a
returns c = search (calls, eq-eqb, ne_eqb)
