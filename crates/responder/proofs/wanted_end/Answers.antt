-- `responder::wanted_end` meets its contract, by the cases of RT and of the entry.
use mathlib.Core.Path.{sym, ◌∙◌}
use Rattle.layout.specs.Layout.{stored}
use Rattle.responder.proofs.Laws.{end_all, end_none, end_one, end_other}
use Rattle.responder.proofs.wanted_end.Goals as goal

pub returns-then-rt-lt2 : goal.returns-then-rt-lt2
returns-then-rt-lt2 c = search end_all

pub returns-then-n-from : goal.returns-then-n-from
returns-then-n-from c = search end_none

pub returns-then-feature-sfn : goal.returns-then-feature-sfn
returns-then-feature-sfn c = let a = c.args in sym (end_one (stored a.lay a.s.now) a.n a.sfn.0 a.from a.rt c.if-rt-lt2.false c.if-n-from.false (cc))

pub returns : goal.returns
returns c = let a = c.args in sym (end_other (stored a.lay a.s.now) a.n a.sfn.0 a.from a.rt c.if-rt-lt2.false c.if-n-from.false (λ z. c.if-feature-sfn.false (c.feature_at-feature.ensures ∙ z)))
