-- `sheet::contents_fault` meets its contract, at a glance or entry by entry.
use mathlib.Core.Path.{sym, ◌∙◌}
use Rattle.sheet.proofs.Glance.{glance_accepts}
use Rattle.sheet.proofs.contents_fault.Goals as goal

pub returns-then-accepted_at_a_glance : goal.returns-then-accepted_at_a_glance
returns-then-accepted_at_a_glance c = sym (glance_accepts _ _ (sym c.accepted_at_a_glance.ensures ∙ c.if-accepted_at_a_glance.true))
