-- `hex_text::past` meets its contract: the loop carries what is left to look at. Assumes nothing.
use mathlib.Core.Path.{refl}
use Rattle.std.proofs.lemmas.Bool.{not_from_true, not_from_false}
use Rattle.hex_text.proofs.Runs.{past_stops, past_goes, past_ends}
use Rattle.hex_text.proofs.past.Goals as goal

pub loop-i-init : goal.loop-i-init
loop-i-init c = refl

pub returns-then-not-is_a : goal.returns-then-not-is_a
returns-then-not-is_a c = past_stops _ _ _ _ c.loop-i.invariant _ _ c.loop-i-test.true c.at-c.ensures c.is_a.ensures (not_from_false _ c.if-not-is_a.true)

pub loop-i-preserved : goal.loop-i-preserved
loop-i-preserved c = past_goes _ _ _ _ c.loop-i.invariant _ _ c.loop-i-test.true c.at-c.ensures c.is_a.ensures (not_from_true _ c.if-not-is_a.false)

pub returns : goal.returns
returns c = search past_ends
