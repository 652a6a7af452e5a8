-- `judge::right` meets its contract: Data Length and the current profile of the list.
use mathlib.Core.Path.{ap, ◌∙◌}
use mathlib.Core.List.{List}
use Prim.Native.Nat.{ℕ}
use Rattle.text.specs.Response.{current_profile}
use Rattle.profiles.specs.Profiles.{profiles_of}
use Rattle.sheet.specs.Meaning.{meaning}
use Rattle.judge.specs.Boxes.{right}
use Rattle.judge.proofs.Boxes.{stated_as}
use Rattle.judge.proofs.right.Goals as goal

pub returns : goal.returns
unfolding right meaning
returns c = let a = c.args in
    stated_as a.rt a.sfn.0 _ _ c.data_length-length.ensures (c.current-profile.ensures ∙ ap (λ (l : List ℕ). current_profile (profiles_of l)) c.profiles_part.ensures.holds)
