-- `judge::box_of` meets its contract: a box for each mistake.
use mathlib.Core.Path.{◌≡◌, sym, ap, ◌∙◌}
use Prim.Native.Nat.{ℕ}
use Rattle.text.specs.Drive.{Drive}
use Rattle.judge.specs.declared.Mistake.{Mistake}
use Rattle.judge.specs.declared.Stated.{Stated}
use Rattle.judge.specs.Boxes.{box_of}
use borrow.Author.Rules.{rules}
use Rattle.judge.proofs.box_of.Goals as goal

-- the box of the mistake that it is
boxed : (rt sfn a : ℕ) (m : Drive) {w v : Mistake} {r : Stated} → w ≡ v → r ≡ box_of v rt sfn a m → r ≡ box_of w rt sfn a m
boxed rt sfn a m e q = q ∙ ap (λ (w : Mistake). box_of w rt sfn a m) (sym e)

pub enum_told-1 : goal.enum_told-1
unfolding box_of
enum_told-1 c = search rules

pub above-requires : goal.above-requires
unfolding box_of
above-requires c = search rules

pub right-requires : goal.right-requires
unfolding box_of
right-requires c = search rules

pub enum_told-in-LengthCut : goal.enum_told-in-LengthCut
unfolding box_of
enum_told-in-LengthCut c = search rules

pub cut_box-requires : goal.cut_box-requires
unfolding box_of
cut_box-requires c = search rules

pub enum_told-in-LengthOfAll : goal.enum_told-in-LengthOfAll
unfolding box_of
enum_told-in-LengthOfAll c = search rules

pub all_box-requires : goal.all_box-requires
unfolding box_of
all_box-requires c = search rules

pub enum_told-in-HighestCurrent : goal.enum_told-in-HighestCurrent
unfolding box_of
enum_told-in-HighestCurrent c = search rules

pub highest_box-requires : goal.highest_box-requires
unfolding box_of
highest_box-requires c = search rules

pub enum_told-in-HighestListed : goal.enum_told-in-HighestListed
unfolding box_of
enum_told-in-HighestListed c = search rules

pub highest_box-requires-in-HighestListed : goal.highest_box-requires-in-HighestListed
unfolding box_of
highest_box-requires-in-HighestListed c = search rules

pub enum_told-in-NotOnlyCurrent : goal.enum_told-in-NotOnlyCurrent
unfolding box_of
enum_told-in-NotOnlyCurrent c = search rules

pub zero_for-requires : goal.zero_for-requires
unfolding box_of
zero_for-requires c = search rules

pub right-requires-in-NotOnlyCurrent : goal.right-requires-in-NotOnlyCurrent
unfolding box_of
right-requires-in-NotOnlyCurrent c = search rules

pub enum_told-in-NotOnlyOne : goal.enum_told-in-NotOnlyOne
unfolding box_of
enum_told-in-NotOnlyOne c = search rules

pub zero_for-requires-in-NotOnlyOne : goal.zero_for-requires-in-NotOnlyOne
unfolding box_of
zero_for-requires-in-NotOnlyOne c = search rules

pub right-requires-in-NotOnlyOne : goal.right-requires-in-NotOnlyOne
unfolding box_of
right-requires-in-NotOnlyOne c = search rules

pub enum_told-in-Unexplained : goal.enum_told-in-Unexplained
unfolding box_of
enum_told-in-Unexplained c = search rules

pub right-requires-in-Unexplained : goal.right-requires-in-Unexplained
unfolding box_of
right-requires-in-Unexplained c = search rules

pub returns-in-OnlyAbove : goal.returns-in-OnlyAbove
unfolding box_of
returns-in-OnlyAbove c = boxed _ _ _ _ c.in-OnlyAbove.is (rw (← c.above.ensures) c.right.ensures)

pub returns-in-LengthCut : goal.returns-in-LengthCut
unfolding box_of
returns-in-LengthCut c = boxed _ _ _ _ c.in-LengthCut.is c.cut_box.ensures

pub returns-in-LengthOfAll : goal.returns-in-LengthOfAll
unfolding box_of
returns-in-LengthOfAll c = boxed _ _ _ _ c.in-LengthOfAll.is c.all_box.ensures

pub returns-in-HighestCurrent : goal.returns-in-HighestCurrent
unfolding box_of
returns-in-HighestCurrent c = boxed _ _ _ _ c.in-HighestCurrent.is c.highest_box.ensures

pub returns-in-HighestListed : goal.returns-in-HighestListed
unfolding box_of
returns-in-HighestListed c = boxed _ _ _ _ c.in-HighestListed.is c.highest_box-in-HighestListed.ensures

pub returns-in-NotOnlyCurrent : goal.returns-in-NotOnlyCurrent
unfolding box_of
returns-in-NotOnlyCurrent c = boxed _ _ _ _ c.in-NotOnlyCurrent.is (rw (← c.zero_for.ensures) c.right-in-NotOnlyCurrent.ensures)

pub returns-in-NotOnlyOne : goal.returns-in-NotOnlyOne
unfolding box_of
returns-in-NotOnlyOne c = boxed _ _ _ _ c.in-NotOnlyOne.is (rw (← c.zero_for-in-NotOnlyOne.ensures) c.right-in-NotOnlyOne.ensures)

pub returns-in-Unexplained : goal.returns-in-Unexplained
unfolding box_of
returns-in-Unexplained c = boxed _ _ _ _ c.in-Unexplained.is c.right-in-Unexplained.ensures
