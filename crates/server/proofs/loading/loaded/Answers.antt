-- `server::loading::loaded` meets its contract. Assumes nothing.
use Rattle.std.proofs.Common.{◌∙◌, ◌≤◌, length, arith}
use Rattle.program_io.proofs.Counted.{counted}
use Rattle.layout.specs.Layout.{stored}
use Rattle.server.proofs.loading.Whole.{Answered, answered}
use Rattle.server.proofs.loading.loaded.Goals as goal

pub returns-clause-prefix_len : goal.returns-clause-prefix_len
returns-clause-prefix_len c =
    let a = c.args in
    let i = c.load in
    let x : Answered a.features.now a.profiles.now (stored a.lay a.sheet.now) a.out.now =
    answered a.features.now a.profiles.now (stored a.lay a.sheet.now) a.out.now (λ j. omega (arith, c.type_inv.sheet j)) in
    let h : i.result.count ≤ length i.new.out = rw (← i.ensures) at x.count in
    counted i.result.count i.new.out h

pub returns-clause-out_after : goal.returns-clause-out_after
returns-clause-out_after c =
    let a = c.args in
    let x : Answered a.features.now a.profiles.now (stored a.lay a.sheet.now) a.out.now =
    answered a.features.now a.profiles.now (stored a.lay a.sheet.now) a.out.now (λ j. omega (arith, c.type_inv.sheet j)) in
    λ k. c.load.ensures ∙ x.whole k
