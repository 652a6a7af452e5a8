-- `responder::entries_size` meets its contract, by the two ways to add up.
use mathlib.Core.Path.{sym, ◌∙◌}
use native.Mathlib.Omega.{arith}
use Rattle.layout.specs.Layout.{stored}
use Rattle.responder.proofs.Laws.{sizes_current, sizes_span}
use Rattle.responder.proofs.entries_size.Goals as goal

pub returns-then-rt-eq1 : goal.returns-then-rt-eq1
returns-then-rt-eq1 c = (c.pieces_size.ensures.0 ∙ sym (sizes_current (let a = c.args in stored a.lay a.s.now) c.args.from c.args.to c.args.rt c.if-rt-eq1.true), omega arith)

pub returns : goal.returns
returns c = (c.span_size.ensures.0 ∙ sym (sizes_span (let a = c.args in stored a.lay a.s.now) c.args.from c.args.to c.args.rt c.if-rt-eq1.false), omega arith)
