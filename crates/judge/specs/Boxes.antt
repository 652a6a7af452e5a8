-- Boxes that get one thing wrong, each in a way that is easy to get wrong, and are right otherwise. Assumes nothing: these are definitions.
use Rattle.std.specs.Prelude.{Bool, true, false, ◌&&◌, ◌||◌, List, [], ◌∷◌, ◌++◌, ℕ, ◌+◌, ◌-◌, min, eqb, ltb, take}
use Rattle.base.specs.Lists.{flat}
use Rattle.refusal.specs.First.{◌if◌else◌}
use Rattle.text.specs.Drive.{Listed, Drive}
use Rattle.text.specs.Response.{bytes, selected, current_profile, header, data_length, most}
use Rattle.judge.specs.declared.Stated.{Stated}
use Rattle.judge.specs.declared.Mistake.{Mistake}
use Rattle.judge.specs.declared.Mistake.TheVariants.{OnlyAbove, LengthCut, LengthOfAll, HighestCurrent, HighestListed, NotOnlyCurrent, NotOnlyOne, Unexplained}

-- what a box makes of a request: the RT and the SFN that it goes by, and the Data Length and the Current Profile that it states
abbrev pub stating : (rt sfn data_length profile : ℕ) → Stated
stating rt sfn data_length profile = record { rt = rt; sfn = record { 0 = sfn }; data_length = data_length; profile = record { 0 = profile } }

-- what such a box sends of the drive m for an allocation length a
unfoldable pub sent_by : Stated → (a : ℕ) → Drive → List ℕ
sent_by b a m = take (most a) (header b.data_length b.profile.0 ++ flat bytes (selected b.rt b.sfn.0 m))

-- the right box
unfoldable pub right : (rt sfn : ℕ) → Drive → Stated
right rt sfn m = stating rt sfn (data_length (selected rt sfn m)) (current_profile m.profiles)

-- the number behind SFN, where RT 0 or 1 asks for more than one feature; FFFFh has none behind it
unfoldable pub above : (rt sfn : ℕ) → ℕ
above rt sfn = (sfn + 1) if ltb rt 2 && ltb sfn 65535 else sfn

-- an RT that is taken for 0, and every other as it is
unfoldable pub zero_for : (which rt : ℕ) → ℕ
zero_for which rt = 0 if eqb rt which else rt

-- the highest of h and the numbers of the listed profiles, of all or of the current ones
unfoldable pub raised : (every on : Bool) (number h : ℕ) → ℕ
raised every on number h = number if ltb h number && (every || on) else h

unfoldable pub highest : (every : Bool) → List Listed → (h : ℕ) → ℕ
highest every [] h = h
highest every (p ∷ ps) h = highest every ps (raised every p.on p.number h)

-- the box that states it as the Current Profile
unfoldable pub highest_box : (every : Bool) (rt sfn : ℕ) → Drive → Stated
highest_box every rt sfn m = stating rt sfn (data_length (selected rt sfn m)) (highest every m.profiles 0)

-- Each mistake is a box. It sends only the features above SFN; states a Data Length that is cut with the allocation length; one that counts all features; the highest of the
-- current profiles as the Current Profile; the highest of all profiles; gives RT 1 what RT 0 gets; gives RT 2 what RT 0 gets. The last one is none: the right box.
unfoldable pub box_of : Mistake → (rt sfn a : ℕ) → Drive → Stated
box_of OnlyAbove rt sfn a m = right rt (above rt sfn) m
box_of LengthCut rt sfn a m = stating rt sfn (min (data_length (selected rt sfn m)) (most a - 4)) (current_profile m.profiles)
box_of LengthOfAll rt sfn a m = stating rt sfn (data_length (selected 0 0 m)) (current_profile m.profiles)
box_of HighestCurrent rt sfn a m = highest_box false rt sfn m
box_of HighestListed rt sfn a m = highest_box true rt sfn m
box_of NotOnlyCurrent rt sfn a m = right (zero_for 1 rt) sfn m
box_of NotOnlyOne rt sfn a m = right (zero_for 2 rt) sfn m
box_of Unexplained rt sfn a m = right rt sfn m

-- the order in which they are tried
unfoldable pub mistakes : List Mistake
mistakes = OnlyAbove ∷ LengthCut ∷ LengthOfAll ∷ HighestCurrent ∷ HighestListed ∷ NotOnlyCurrent ∷ NotOnlyOne ∷ []

-- the number that tells a mistake: its place in that order, from 1 on; 0 is none
unfoldable pub mistake_number : Mistake → ℕ
mistake_number w = elim w [ OnlyAbove ↦ 1 | LengthCut ↦ 2 | LengthOfAll ↦ 3 | HighestCurrent ↦ 4 | HighestListed ↦ 5 | NotOnlyCurrent ↦ 6 | NotOnlyOne ↦ 7 | Unexplained ↦ 0 ]

-- what the box of a mistake sends
abbrev pub sent_with : Mistake → (rt sfn a : ℕ) → Drive → List ℕ
sent_with w rt sfn a m = sent_by (box_of w rt sfn a m) a m
