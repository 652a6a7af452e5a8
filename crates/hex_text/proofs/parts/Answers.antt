-- `hex_text::parts` meets its contract: each early return is a case of the definition. Assumes nothing.
use borrow.Author.Tests.{eq-eqb, ne_eqb}
use Rattle.hex_text.proofs.Cases.{calls}
use Rattle.hex_text.specs.Chars.{parts}
use borrow.Author.Rules.{rules}
use Rattle.hex_text.proofs.parts.Goals as goal

pub blank-requires : goal.blank-requires
unfolding parts
blank-requires c = search rules

pub returns-then-blank : goal.returns-then-blank
unfolding parts
returns-then-blank c = search (calls, eq-eqb, ne_eqb)

pub returns-then-c-eq10 : goal.returns-then-c-eq10
unfolding parts
returns-then-c-eq10 c = search (calls, eq-eqb, ne_eqb)

pub returns : goal.returns
unfolding parts
returns c = search (calls, eq-eqb, ne_eqb)
