-- `rom::put_head` meets its contract: two writings one after the other, the second of four bytes or of what there is of them.
use mathlib.Core.Path.{ap, ◌∙◌}
use native.Mathlib.Omega.{arith}
use Rattle.fields.specs.Field.{spell}
use Rattle.fields.proofs.Laws.{spell_field}
use Rattle.lent.proofs.Laws.{then, written_as}
use Rattle.rom.specs.inner.Standing.{head_of}
use Rattle.text.specs.Reading.{stated_length}
use Rattle.rom.proofs.put_head.Goals as goal

pub returns-then-image-lt-LENGTH : goal.returns-then-image-lt-LENGTH
unfolding head_of stated_length
returns-then-image-lt-LENGTH c = let b = c in
    rw (← c.part.ensures.holds, ← b.get4.ensures, ← b.less_passed-length.ensures) (then b.put4-a.ensures c.copy.ensures)

pub returns : goal.returns
unfolding head_of stated_length
returns c = let early = c in
    let b = c in
    let rest = ap (spell 4) c.inside4.ensures ∙ spell_field 4 early.args.image.now 4 (λ j. (early.type_inv.image j).fits) (omega arith) in
    rw (← b.get4.ensures, ← b.less_passed-length.ensures) (then b.put4-a.ensures (written_as rest c.put4.ensures))
