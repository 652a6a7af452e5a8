-- `load::flags_with` meets its contract: a Persistent feature stays current, each other one is as it is listed.
use mathlib.Core.Path.{sym, ◌∙◌}
use native.Mathlib.Omega.{arith}
use native.Mathlib.Nat.{div-add-mod'}
use Rattle.load.specs.Load.{flags_with}
use Rattle.load.proofs.With.{bit_low}
use Rattle.load.proofs.flags_with.Goals as goal

pub returns-then-persistent : goal.returns-then-persistent
unfolding flags_with
returns-then-persistent c = rw (sym c.persistent.ensures ∙ c.if-persistent.true)

pub overflow_add-result-2 : goal.overflow_add-result-2
overflow_add-result-2 c = let a = c.args in
    omega (arith, div-add-mod' a.flags.0 2, bit_low a.listed, c.struct_known-1.given)

pub returns : goal.returns
unfolding flags_with
returns c = rw (sym c.persistent.ensures ∙ c.if-persistent.false)
