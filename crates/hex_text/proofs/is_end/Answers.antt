-- `hex_text::is_end` meets its contract: each early return is a case of the definition. Assumes nothing.
use Prim.Native.Nat.{ℕ}
use borrow.Author.Tests.{le-leb, lt-leb}
use lib.Dec.{eqb}
use mathlib.Core.Path.{refl, ap}
use Rattle.hex_text.proofs.Cases.{Y, N}
use Rattle.hex_text.specs.Front.{is_end}
use Rattle.hex_text.proofs.is_end.Goals as goal

pub returns-then-not-dump : goal.returns-then-not-dump
unfolding is_end
returns-then-not-dump c = N _ _ _ (c.if-not-dump.true) refl

pub returns-then-b-a : goal.returns-then-b-a
unfolding is_end
returns-then-b-a c = Y _ _ _ (c.if-not-dump.false) (Y _ _ _ (le-leb _ _ c.if-b-a.true) refl)

pub returns : goal.returns
unfolding is_end
returns c = Y _ _ _ (c.if-not-dump.false) (N _ _ _ (lt-leb _ _ c.if-b-a.false) (ap (λ (v : ℕ). eqb v 10) c.at.ensures))
