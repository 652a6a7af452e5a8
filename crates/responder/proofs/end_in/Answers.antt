-- `responder::end_in` meets its contract: where the bodies start, or what the entry before says.
use mathlib.Core.Path.{ap, ◌∙◌, sym}
use Prim.Native.Nat.{◌+◌}
use Rattle.layout.specs.Layout.{stored}
use Rattle.layout.specs.declared.Entry.{Entry}
use Rattle.layout.specs.Contents.{entry_of}
use Rattle.sheet.specs.Check.{end_before_entry}
use Rattle.sheet.proofs.Laws.{end_before}
use Rattle.responder.proofs.end_in.Goals as goal

pub returns-then-i-eq0 : goal.returns-then-i-eq0
unfolding end_before_entry
returns-then-i-eq0 c = rw c.if-i-eq0.true c.bodies_at.ensures

pub returns : goal.returns
unfolding entry_of
returns c = let a = c.args in ap (λ (e : Entry). e.offset + e.length) c.entry_in-last.ensures ∙ sym (end_before (stored a.lay a.s.now) a.i c.if-i-eq0.false)
