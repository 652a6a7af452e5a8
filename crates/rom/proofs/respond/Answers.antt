-- `rom::respond` meets its contract: the image's refusal, or what the command is answered from an image that is accepted.
use mathlib.Core.Path.{◌≡◌, sym, ap, ◌∙◌}
use native.Mathlib.Omega.{arith}
use Rattle.refusal.proofs.First.{unless_none}
use Rattle.lent.specs.Maker.{refusing}
use Rattle.lent.proofs.Maker.{refused_unless}
use Rattle.capture.specs.Capture.{capture_fault}
use Rattle.capture.proofs.Checked.{capture_refusal}
use Rattle.rom.proofs.Accepted.{image_accepted, answered_after}
use Rattle.rom.proofs.respond.Goals as goal

pub returns-then-fault-ne0 : goal.returns-then-fault-ne0
returns-then-fault-ne0 c = let b = c in
    let a = b.args in
    refused_unless _ c.refused.ensures (capture_refusal _ _ b.check-capture.ensures) c.if-fault-ne0.true
    ∙ sym (answered_after a.image.now a.command.now a.out.now)

pub returns : goal.returns
returns c = let b = c in
    let a = b.args in
    let ok : (capture_fault a.image.now).number ≡ 0 = sym (ap (λ r. r.number) (capture_refusal _ _ b.check-capture.ensures)) ∙ c.if-fault-ne0.false in
    c.respond_accepted.ensures
    ∙ image_accepted a.image.now (λ i. omega (arith, b.type_inv.image i)) ok a.command.now a.out.now
    ∙ sym (answered_after a.image.now a.command.now a.out.now ∙ unless_none (capture_fault a.image.now) (refusing a.out.now) _ ok)
