-- `legal::counted_mask` meets its contract: the first four bytes, those that are counted, and the pad.
use mathlib.Core.Path.{◌∙◌, sym}
use Rattle.legal.proofs.Bits.{counted_front, counted_in, counted_pad}
use Rattle.legal.proofs.counted_mask.Goals as goal

pub returns-then-k-lt4 : goal.returns-then-k-lt4
returns-then-k-lt4 c = c.mask_byte.ensures ∙ sym (counted_front _ _ _ c.if-k-lt4.true)

pub returns-then-k-n : goal.returns-then-k-n
returns-then-k-n c = sym (counted_in _ _ _ c.if-k-lt4.false c.if-k-n.true)

pub returns : goal.returns
returns c = sym (counted_pad _ _ _ c.if-k-lt4.false c.if-k-n.false)
