-- `abi::tell` meets its contract, verdict by verdict. Assumes nothing.
use mathlib.Core.Path.{◌≡◌, sym, ap, ◌∙◌}
use Prim.Native.Nat.{ℕ}
use Rattle.abi.specs.Left.{tells, telling}
use Rattle.abi.proofs.tell.Goals as goal

same-mistake : {k n m : ℕ} → n ≡ m → tells 0 4 k n 0 0 ≡ tells 0 4 k m 0 0
same-mistake {k} e = ap (λ (n : ℕ). tells 0 4 k n 0 0) e

pub returns-in-Exact : goal.returns-in-Exact
unfolding telling
returns-in-Exact c = c.saying.ensures ∙ ap telling (sym c.in-Exact.is)

pub returns-in-Padded : goal.returns-in-Padded
unfolding telling
returns-in-Padded c = c.saying-in-Padded.ensures ∙ ap telling (sym c.in-Padded.is)

pub returns-in-Short : goal.returns-in-Short
unfolding telling
returns-in-Short c = c.saying-in-Short.ensures ∙ ap telling (sym c.in-Short.is)

pub returns-in-Wrong : goal.returns-in-Wrong
unfolding telling
returns-in-Wrong c = c.saying-in-Wrong.ensures ∙ same-mistake c.mistake_number.ensures ∙ ap telling (sym c.in-Wrong.is)

pub returns-in-Answered : goal.returns-in-Answered
unfolding telling
returns-in-Answered c = c.saying-in-Answered.ensures ∙ ap telling (sym c.in-Answered.is)

pub returns-in-Refused : goal.returns-in-Refused
unfolding telling
returns-in-Refused c = ap telling (sym c.in-Refused.is)
