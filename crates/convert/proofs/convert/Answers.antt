-- `convert::convert` meets its contract: the sheet's refusal, 42, or the sheet laid out anew.
use mathlib.Core.Path.{refl}
use Rattle.layout.specs.Layout.{stored}
use Rattle.convert.proofs.Converted.{refused_first, refused_short, laid_out, has_room}
use Rattle.convert.proofs.convert.Goals as goal

pub returns-then-fault-ne0 : goal.returns-then-fault-ne0
returns-then-fault-ne0 c = let a = c.args in
    refused_first a.to (stored a.lay a.s.now) a.out.now (λ i. (c.type_inv.s i).fits) c.check-fault.ensures c.if-fault-ne0.true c.refused.ensures

pub returns-then-out-s : goal.returns-then-out-s
returns-then-out-s c = let a = c.args in
    refused_short a.to (stored a.lay a.s.now) a.out.now (λ i. (c.type_inv.s i).fits) c.check-fault.ensures c.if-fault-ne0.false c.if-out-s.true c.refused-then-out-s.ensures

pub put_laid-count-requires : goal.put_laid-count-requires
put_laid-count-requires c = let a = c.args in
    (refl, has_room a.to (stored a.lay a.s.now) a.out.now (λ i. (c.type_inv.s i).fits) c.check-fault.ensures c.if-fault-ne0.false)

pub returns : goal.returns
returns c = let a = c.args in
    laid_out a.to (stored a.lay a.s.now) a.out.now (λ i. (c.type_inv.s i).fits) c.check-fault.ensures c.if-fault-ne0.false c.if-out-s.false c.put_laid-count.ensures c.written.ensures
