-- `hex_text::is_offset` meets its contract: each early return is a case of the definition. Assumes nothing.
use Prim.Native.Nat.{ℕ}
use borrow.Author.Tests.{lt-leb}
use lib.Dec.{ltb}
use mathlib.Core.Path.{ap, ◌∙◌}
use Rattle.hex_text.proofs.Cases.{N, tests}
use Rattle.hex_text.specs.Chars.{value}
use Rattle.hex_text.specs.Front.{is_offset}
use borrow.Author.Rules.{rules}
use Rattle.hex_text.proofs.is_offset.Goals as goal

pub returns-then-b-a : goal.returns-then-b-a
unfolding is_offset
returns-then-b-a c = search tests

pub returns-then-e-b : goal.returns-then-e-b
unfolding is_offset
returns-then-e-b c = search tests

pub overflow_add-b : goal.overflow_add-b
unfolding is_offset
overflow_add-b c = search rules

pub returns-then-e-b-2 : goal.returns-then-e-b-2
unfolding is_offset
returns-then-e-b-2 c = search tests

pub at-c-requires : goal.at-c-requires
unfolding is_offset
at-c-requires c = search rules

pub value-requires : goal.value-requires
unfolding is_offset
value-requires c = search rules

pub returns : goal.returns
unfolding is_offset
returns c = N _ _ _ (lt-leb _ _ c.if-b-a.false) (N _ _ _ (lt-leb _ _ c.if-e-b.false) (N _ _ _ (lt-leb _ _ c.if-e-b-2.false) (ap (λ (v : ℕ). ltb v 16) (c.value.ensures ∙ ap value c.at-c.ensures))))
