-- `responder::respond_accepted` meets its contract: the command's refusal, or what is sent.
use Rattle.lent.proofs.Maker.{refused_unless}
use Rattle.command.proofs.Asked.{asked_unless}
use Rattle.layout.specs.Layout.{stored}
use Rattle.responder.specs.Trusting.{trusting, trusting_command}
use Rattle.responder.proofs.respond_accepted.Goals as goal

pub returns-then-fault-ne0 : goal.returns-then-fault-ne0
unfolding trusting_command
returns-then-fault-ne0 c = refused_unless _ c.refused.ensures c.fault-fault.ensures c.if-fault-ne0.true

pub returns : goal.returns
unfolding trusting_command
returns c = let b = c in
    let a = b.args in
    asked_unless a.command.now a.out.now (λ rt sfn n. trusting (stored a.lay a.s.now) rt sfn n a.out.now) b.fault-fault.ensures b.if-fault-ne0.false b.read-c.ensures c.send.ensures
