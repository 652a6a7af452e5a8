-- `hex_text::is_six` meets its contract: each early return is a case of the definition. Assumes nothing.
use Prim.Native.Nat.{ℕ, ◌+◌}
use lib.Dec.{leb, eqb}
use mathlib.Core.Path.{refl, sym, ap, ◌∙◌}
use Rattle.hex_text.proofs.Cases.{Y, N}
use Rattle.hex_text.specs.Front.{is_six}
use Rattle.hex_text.proofs.is_six.Goals as goal

pub returns-then-not-is_sum : goal.returns-then-not-is_sum
unfolding is_six
returns-then-not-is_sum c = N _ _ _ (sym c.is_sum.ensures ∙ c.if-not-is_sum.true) refl

pub returns-then-not-is_sum-2 : goal.returns-then-not-is_sum-2
unfolding is_six
returns-then-not-is_sum-2 c = Y _ _ _ (sym c.is_sum.ensures ∙ c.if-not-is_sum.false) (N _ _ _ (sym c.is_sum-2.ensures ∙ c.if-not-is_sum-2.true) refl)

pub returns-then-not-is_sum-3 : goal.returns-then-not-is_sum-3
unfolding is_six
returns-then-not-is_sum-3 c = Y _ _ _ (sym c.is_sum.ensures ∙ c.if-not-is_sum.false)
    (Y _ _ _ (sym c.is_sum-2.ensures ∙ c.if-not-is_sum-2.false)
    (N _ _ _ (ap (λ (w : ℕ). eqb w (c.args.e + 2)) (sym c.past-w.ensures) ∙ sym c.is_sum-3.ensures ∙ c.if-not-is_sum-3.true) refl))

pub returns-then-dump : goal.returns-then-dump
unfolding is_six
returns-then-dump c = Y _ _ _ (sym c.is_sum.ensures ∙ c.if-not-is_sum.false)
    (Y _ _ _ (sym c.is_sum-2.ensures ∙ c.if-not-is_sum-2.false)
    (Y _ _ _ (ap (λ (w : ℕ). eqb w (c.args.e + 2)) (sym c.past-w.ensures) ∙ sym c.is_sum-3.ensures ∙ c.if-not-is_sum-3.false)
    (Y _ _ _ c.if-dump.true refl)))

pub returns : goal.returns
unfolding is_six
returns c = Y _ _ _ (sym c.is_sum.ensures ∙ c.if-not-is_sum.false)
    (Y _ _ _ (sym c.is_sum-2.ensures ∙ c.if-not-is_sum-2.false)
    (Y _ _ _ (ap (λ (w : ℕ). eqb w (c.args.e + 2)) (sym c.past-w.ensures) ∙ sym c.is_sum-3.ensures ∙ c.if-not-is_sum-3.false)
    (N _ _ _ c.if-dump.false (ap (λ (w : ℕ). leb c.args.b w) c.past.ensures))))
