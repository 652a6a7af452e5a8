-- `responder::send` meets its contract: the plan gives the bytes and the limit, and the part of the buffer up to it is lent to the writers.
use mathlib.Core.Path.{sym, ap, ◌∙◌}
use lib.Seq.{length-take-le}
use Rattle.layout.specs.Layout.{stored}
use Rattle.responder.specs.declared.Plan.{Plan}
use Rattle.responder.specs.inner.Index.{taken_from, taken_size, plan_of, limit}
use Rattle.responder.specs.Trusting.{trusting}
use Rattle.responder.proofs.Sized.{sized_short, sized_sent}
use Rattle.responder.proofs.send.Goals as goal

pub returns-then-out-limit : goal.returns-then-out-limit
unfolding trusting plan_of
returns-then-out-limit c = let a = c.args in
    sized_short (stored a.lay a.s.now) a.rt a.sfn.0 a.a (taken_from (stored a.lay a.s.now) a.sfn.0) (taken_size (stored a.lay a.s.now) a.rt a.sfn.0) a.out.now _ (c.due-limit.ensures ∙ ap (λ (p : Plan). limit a.a p.size) c.planned-plan.ensures) c.if-out-limit.true _ c.refused.ensures

pub slice_bounds-put_full-end-2 : goal.slice_bounds-put_full-end-2
slice_bounds-put_full-end-2 c = sym (length-take-le c.due-limit.result c.args.out.now c.if-out-limit.false)

pub returns : goal.returns
unfolding trusting plan_of
returns c = let a = c.args in
    sized_sent (stored a.lay a.s.now) a.rt a.sfn.0 a.a (taken_from (stored a.lay a.s.now) a.sfn.0) (taken_size (stored a.lay a.s.now) a.rt a.sfn.0) a.out.now _ (c.due-limit.ensures ∙ ap (λ (p : Plan). limit a.a p.size) c.planned-plan.ensures)
    c.planned-plan.result c.put_full-count.result c.put_full-count.new.out c.written.result c.planned-plan.ensures c.if-out-limit.false c.put_full-count.ensures c.written.ensures
