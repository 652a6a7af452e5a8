-- `responder::respond` meets its contract: the sheet's refusal, or what the command is answered from a sheet that is accepted.
use mathlib.Core.Path.{sym, ap, ◌∙◌}
use native.Mathlib.Omega.{arith}
use Rattle.lent.proofs.Maker.{refused_unless}
use Rattle.layout.specs.Layout.{stored}
use Rattle.sheet.specs.Check.{Accepted}
use Rattle.responder.specs.Answer.{commanded}
use Rattle.responder.proofs.Trusting.{answered_trusted, answered_after}
use Rattle.responder.proofs.respond.Goals as goal

pub returns-then-unfit-ne0 : goal.returns-then-unfit-ne0
returns-then-unfit-ne0 c = let a = c.args in
    refused_unless (commanded (stored a.lay a.s.now) a.command.now a.out.now) c.refused.ensures c.check-unfit.ensures c.if-unfit-ne0.true
    ∙ sym (answered_after (stored a.lay a.s.now) a.command.now a.out.now)

pub returns : goal.returns
returns c = let a = c.args in
    let ok : Accepted (stored a.lay a.s.now) = sym (ap (λ r. r.number) c.check-unfit.ensures) ∙ c.if-unfit-ne0.false in
    c.respond_accepted.ensures
    ∙ answered_trusted (stored a.lay a.s.now) (λ i. omega (arith, c.type_inv.s i)) ok a.command.now a.out.now
