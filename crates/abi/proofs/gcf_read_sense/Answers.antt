-- `abi::gcf_read_sense` meets its contract: the number of the kind, or 0, told. Assumes nothing.
use Rattle.abi.specs.Left.{left, kind_told, show_sensed}
use Rattle.sense.specs.Sense.{heard}
use mathlib.Core.List.{[], ◌∷◌}
use mathlib.Core.Path.{ap, sym, ◌∙◌}
use Rattle.abi.proofs.gcf_read_sense.Goals as goal

pub returns-in-Means : goal.returns-in-Means
unfolding kind_told show_sensed
returns-in-Means c = ap (λ n. left 0 tt (n ∷ [])) c.kind_number.ensures ∙ ap show_sensed (ap heard (sym c.in-Means.is) ∙ c.read-meaning.ensures)

pub returns-in-Refused : goal.returns-in-Refused
unfolding kind_told show_sensed
returns-in-Refused c = ap show_sensed (ap heard (sym c.in-Refused.is) ∙ c.read-meaning.ensures)
