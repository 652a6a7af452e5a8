-- `judge::cut_box` meets its contract: Data Length is cut, and the profile is the right one.
use mathlib.Core.Path.{ap, ◌∙◌}
use Prim.Native.Nat.{◌-◌, min}
use Rattle.text.specs.Response.{most}
use Rattle.judge.specs.declared.Stated.{Stated}
use Rattle.judge.specs.Boxes.{right, box_of}
use Rattle.judge.proofs.Boxes.{stated_as}
use Rattle.judge.proofs.cut_box.Goals as goal

pub returns : goal.returns
unfolding right box_of
returns c = let a = c.args in
    stated_as a.rt a.sfn.0 _ _ (c.cut_length-length.ensures ∙ ap (λ (b : Stated). min b.data_length (most a.a - 4)) c.right-b.ensures) (ap (λ (b : Stated). b.profile.0) c.right-b.ensures)
