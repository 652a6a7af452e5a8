-- `legal::mask_at` meets its contract: by the cases of the length.
use mathlib.Core.Path.{◌∙◌, sym}
use Rattle.legal.proofs.Bits.{mask_any, mask_exactly, mask_counted}
use Rattle.legal.proofs.mask_at.Goals as goal

pub returns-in-Any : goal.returns-in-Any
returns-in-Any c = c.mask_byte.ensures ∙ sym (mask_any _ _ _ _ c.in-Any.is)

pub returns-in-Exactly : goal.returns-in-Exactly
returns-in-Exactly c = c.mask_byte-in-Exactly.ensures ∙ sym (mask_exactly _ _ _ _ _ c.in-Exactly.is)

pub returns-in-Counted : goal.returns-in-Counted
returns-in-Counted c = c.counted_mask.ensures ∙ sym (mask_counted _ _ _ _ c.in-Counted.is)
