-- `hex_text::is_a` meets its contract: the test of each class. Assumes nothing.
use Prim.Native.Nat.{ℕ}
use lib.Dec.{ltb}
use mathlib.Core.Path.{sym, ap, ◌∙◌}
use Rattle.hex_text.specs.Chars.{is_a}
use Rattle.hex_text.specs.declared.Class.{Class}
use Rattle.hex_text.proofs.is_a.Goals as goal

pub returns-in-Blank : goal.returns-in-Blank
unfolding is_a
returns-in-Blank c = c.blank.ensures ∙ ap (λ (k : Class). is_a k c.args.c) (sym c.in-Blank.is)

pub returns-in-Digit : goal.returns-in-Digit
unfolding is_a
returns-in-Digit c = ap (λ (v : ℕ). ltb v 16) c.value.ensures ∙ ap (λ (k : Class). is_a k c.args.c) (sym c.in-Digit.is)

pub returns-in-Zero : goal.returns-in-Zero
unfolding is_a
returns-in-Zero c = ap (λ (k : Class). is_a k c.args.c) (sym c.in-Zero.is)

pub returns-in-Solid : goal.returns-in-Solid
unfolding is_a
returns-in-Solid c = c.solid.ensures ∙ ap (λ (k : Class). is_a k c.args.c) (sym c.in-Solid.is)

pub returns-in-Inner : goal.returns-in-Inner
unfolding is_a
returns-in-Inner c = ap (λ (k : Class). is_a k c.args.c) (sym c.in-Inner.is)
