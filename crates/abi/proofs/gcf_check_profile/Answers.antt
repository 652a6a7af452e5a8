-- `abi::gcf_check_profile` meets its contract: each case of the judgement, told. Assumes nothing.
use Rattle.abi.specs.Left.{show_judged}
use Rattle.needs.specs.Judge.{said}
use mathlib.Core.Path.{ap, sym, ◌∙◌}
use Rattle.abi.proofs.gcf_check_profile.Goals as goal

pub returns-in-Conforms : goal.returns-in-Conforms
unfolding show_judged
returns-in-Conforms c = ap show_judged (ap said (sym c.in-Conforms.is) ∙ c.check_profile-judgement.ensures)

pub returns-in-Broken : goal.returns-in-Broken
unfolding show_judged
returns-in-Broken c = rw c.number-number.ensures (ap show_judged (ap said (sym c.in-Broken.is) ∙ c.check_profile-judgement.ensures))

pub returns-in-Refused : goal.returns-in-Refused
unfolding show_judged
returns-in-Refused c = ap show_judged (ap said (sym c.in-Refused.is) ∙ c.check_profile-judgement.ensures)
