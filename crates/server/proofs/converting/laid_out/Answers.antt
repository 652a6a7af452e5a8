-- `server::converting::laid_out` meets its contract. Assumes nothing.
use Rattle.std.proofs.Common.{◌∙◌, ◌≤◌, length, arith}
use Rattle.program_io.proofs.Counted.{counted}
use Rattle.layout.specs.Layout.{stored}
use Rattle.server.proofs.converting.Whole.{Answered, answered}
use Rattle.server.proofs.converting.laid_out.Goals as goal

pub returns-clause-prefix_len : goal.returns-clause-prefix_len
returns-clause-prefix_len c =
    let a = c.args in
    let i = c.convert in
    let x : Answered a.to (stored a.lay a.sheet.now) a.out.now = answered a.to (stored a.lay a.sheet.now) a.out.now (λ j. omega (arith, c.type_inv.sheet j)) in
    let h : i.result.count ≤ length i.new.out = rw (← i.ensures) at x.count in
    counted i.result.count i.new.out h

pub returns-clause-out_after : goal.returns-clause-out_after
returns-clause-out_after c =
    let a = c.args in
    let x : Answered a.to (stored a.lay a.sheet.now) a.out.now = answered a.to (stored a.lay a.sheet.now) a.out.now (λ j. omega (arith, c.type_inv.sheet j)) in
    λ k. c.convert.ensures ∙ x.whole k
