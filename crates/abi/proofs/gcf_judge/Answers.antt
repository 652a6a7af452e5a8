-- `abi::gcf_judge` meets its contract: what the judge says, told, and what it leaves in the buffer. Assumes nothing.
use mathlib.Core.Path.{◌≡◌, ap, ◌∙◌}
use mathlib.Core.List.{List}
use Prim.Native.Nat.{ℕ}
use Rattle.judge.specs.Verdict.{Judgement, judgement}
use Rattle.judge.specs.declared.Verdict.{Verdict}
use Rattle.abi.specs.declared.Telling.{Telling}
use Rattle.abi.specs.Left.{telling, show_telling, show_judgement}
use Rattle.abi.proofs.gcf_judge.Goals as goal

-- a verdict v that is told, and the buffer d
shown : {v : Verdict} {t : Telling} {d : List ℕ} {j : Judgement} → t ≡ telling v → judgement v d ≡ j → show_telling t d ≡ show_judgement j
unfolding show_judgement
shown {v} {t} {d} p q = ap (λ (t : Telling). show_telling t d) p ∙ ap show_judgement q

pub returns : goal.returns
unfolding show_telling
returns c = shown c.tell-t.ensures (rw c.layout_of.ensures at c.judge-verdict.ensures)
