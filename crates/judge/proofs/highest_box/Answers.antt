-- `judge::highest_box` meets its contract: Data Length and the highest profile of the list.
use mathlib.Core.Path.{ap, ◌∙◌}
use mathlib.Core.List.{List}
use Prim.Native.Nat.{ℕ}
use Rattle.profiles.specs.Profiles.{profiles_of}
use Rattle.sheet.specs.Meaning.{meaning}
use Rattle.judge.specs.Boxes.{highest, highest_box}
use Rattle.judge.proofs.Boxes.{stated_as}
use Rattle.judge.proofs.highest_box.Goals as goal

pub returns : goal.returns
unfolding highest_box meaning
returns c = let a = c.args in
    stated_as a.rt a.sfn.0 _ _ c.data_length-length.ensures (c.highest-profile.ensures ∙ ap (λ (l : List ℕ). highest a.every (profiles_of l) 0) c.profiles_part.ensures.holds)
