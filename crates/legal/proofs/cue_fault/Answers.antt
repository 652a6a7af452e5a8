-- `legal::cue_fault` meets its contract: each early return is a case of the rule.
use Rattle.refusal.proofs.First.{tests}
use Rattle.legal.specs.Bodies.{cue_rule}
use borrow.Author.Rules.{rules}
use Rattle.legal.proofs.cue_fault.Goals as goal

pub returns-then-f-ne46 : goal.returns-then-f-ne46
unfolding cue_rule
returns-then-f-ne46 c = search tests

pub byte-byte4-requires : goal.byte-byte4-requires
unfolding cue_rule
byte-byte4-requires c = search rules

pub returns-then-byte4-ne0 : goal.returns-then-byte4-ne0
unfolding cue_rule
returns-then-byte4-ne0 c = search (tests, ← c.byte-byte4.ensures)

pub get3-requires : goal.get3-requires
unfolding cue_rule
get3-requires c = search rules

pub returns-then-get3-ne0 : goal.returns-then-get3-ne0
unfolding cue_rule
returns-then-get3-ne0 c = search (tests, ← c.byte-byte4.ensures, ← c.get3.ensures)

pub returns : goal.returns
unfolding cue_rule
returns c = search (tests, ← c.byte-byte4.ensures, ← c.get3.ensures)
