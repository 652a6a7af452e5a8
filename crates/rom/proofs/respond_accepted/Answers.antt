-- `rom::respond_accepted` meets its contract: the command's refusal, or what is sent.
use Rattle.lent.proofs.Maker.{refused_unless}
use Rattle.command.proofs.Asked.{asked_unless}
use Rattle.rom.specs.Image.{image_requested, image_commanded}
use borrow.Author.Rules.{rules}
use Rattle.rom.proofs.respond_accepted.Goals as goal

pub fault-fault-requires : goal.fault-fault-requires
unfolding image_commanded
fault-fault-requires c = search rules

pub refused-requires : goal.refused-requires
unfolding image_commanded
refused-requires c = search rules

pub returns-then-fault-ne0 : goal.returns-then-fault-ne0
unfolding image_commanded
returns-then-fault-ne0 c = refused_unless _ c.refused.ensures c.fault-fault.ensures c.if-fault-ne0.true

pub read-c-requires : goal.read-c-requires
unfolding image_commanded
read-c-requires c = search rules

pub send-requires : goal.send-requires
unfolding image_commanded
send-requires c = search rules

pub shape_of-out : goal.shape_of-out
unfolding image_commanded
shape_of-out c = search rules

pub returns : goal.returns
unfolding image_commanded
returns c = let b = c in let a = b.args in asked_unless a.command.now a.out.now (λ rt sfn n. image_requested a.image.now rt sfn n a.out.now) b.fault-fault.ensures b.if-fault-ne0.false b.read-c.ensures c.send.ensures
