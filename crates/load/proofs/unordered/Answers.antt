-- `load::unordered` meets its contract: the features, or else the profiles.
use mathlib.Core.Path.{sym, ap, ◌∙◌}
use mathlib.Core.Bool.{Bool, not, ◌||◌}
use Rattle.load.specs.Load.{ascends}
use Rattle.load.proofs.unordered.Goals as goal

pub returns-then-not-ascends : goal.returns-then-not-ascends
returns-then-not-ascends c = let a = c.args in
    sym (ap (λ (t : Bool). not t || not (ascends a.profiles.now)) (sym c.ascends.ensures ∙ c.if-not-ascends.true))

pub returns : goal.returns
returns c = let a = c.args in
    ap not c.ascends-2.ensures ∙ sym (ap (λ (t : Bool). not t || not (ascends a.profiles.now)) (sym c.ascends.ensures ∙ c.if-not-ascends.false))
