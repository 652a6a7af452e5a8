-- `hex_text::opened_at` meets its contract: each early return is a case of the definition. Assumes nothing.
use Prim.Native.Nat.{ℕ}
use mathlib.Core.Bool.{true}
use mathlib.Core.Path.{sym, ap, ◌∙◌}
use Rattle.hex_text.proofs.Cases.{Y, N}
use Rattle.hex_text.specs.Front.{fresh, width, opened_at}
use Rattle.hex_text.proofs.opened_at.Goals as goal

pub returns-then-is_offset : goal.returns-then-is_offset
unfolding opened_at
returns-then-is_offset c = Y _ _ _ (sym c.is_offset.ensures ∙ c.if-is_offset.true) (c.fresh.ensures ∙ ap (λ (w : ℕ). fresh c.args.e w true c.args.started) (c.width.ensures ∙ ap width c.at-c.ensures))

pub returns-then-is_six : goal.returns-then-is_six
unfolding opened_at
returns-then-is_six c = N _ _ _ (sym c.is_offset.ensures ∙ c.if-is_offset.false) (Y _ _ _ (sym c.is_six.ensures ∙ c.if-is_six.true) c.fresh-then-is_six.ensures)

pub returns-then-is_end : goal.returns-then-is_end
unfolding opened_at
returns-then-is_end c = N _ _ _ (sym c.is_offset.ensures ∙ c.if-is_offset.false)
    (N _ _ _ (sym c.is_six.ensures ∙ c.if-is_six.false)
    (Y _ _ _ (sym c.is_end.ensures ∙ c.if-is_end.true) (c.fresh-then-is_end.ensures ∙ ap (λ (w : ℕ). fresh w 0 c.args.dump c.args.started) c.past.ensures)))

pub returns-then-is_words : goal.returns-then-is_words
unfolding opened_at
returns-then-is_words c = N _ _ _ (sym c.is_offset.ensures ∙ c.if-is_offset.false)
    (N _ _ _ (sym c.is_six.ensures ∙ c.if-is_six.false)
    (N _ _ _ (sym c.is_end.ensures ∙ c.if-is_end.false)
    (Y _ _ _ (sym c.is_words.ensures ∙ c.if-is_words.true) (c.fresh-then-is_words.ensures ∙ ap (λ (w : ℕ). fresh w 0 c.args.dump c.args.started) c.past-then-is_words.ensures))))

pub returns : goal.returns
unfolding opened_at
returns c = N _ _ _ (sym c.is_offset.ensures ∙ c.if-is_offset.false)
    (N _ _ _ (sym c.is_six.ensures ∙ c.if-is_six.false)
    (N _ _ _ (sym c.is_end.ensures ∙ c.if-is_end.false)
    (N _ _ _ (sym c.is_words.ensures ∙ c.if-is_words.false) c.fresh-2.ensures)))
