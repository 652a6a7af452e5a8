-- `judge::all_box` meets its contract: what the right box states for RT 0 from 0.
use mathlib.Core.Path.{ap}
use Rattle.judge.specs.declared.Stated.{Stated}
use Rattle.judge.specs.Boxes.{right, box_of}
use Rattle.judge.proofs.Boxes.{stated_as}
use Rattle.judge.proofs.all_box.Goals as goal

pub returns : goal.returns
unfolding right box_of
returns c = let a = c.args in
    stated_as a.rt a.sfn.0 _ _ (ap (λ (b : Stated). b.data_length) c.right-all.ensures) (ap (λ (b : Stated). b.profile.0) c.right-all.ensures)
