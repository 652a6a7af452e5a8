-- `abi::mistake_number` meets its contract, mistake by mistake. Assumes nothing.
use borrow.Author.Rules.{rules}
use Rattle.judge.specs.Boxes.{mistake_number}
use Rattle.abi.proofs.mistake_number.Goals as goal

pub enum_told-1 : goal.enum_told-1
unfolding mistake_number
enum_told-1 c = search rules

pub enum_told-in-LengthCut : goal.enum_told-in-LengthCut
unfolding mistake_number
enum_told-in-LengthCut c = search rules

pub enum_told-in-LengthOfAll : goal.enum_told-in-LengthOfAll
unfolding mistake_number
enum_told-in-LengthOfAll c = search rules

pub enum_told-in-HighestCurrent : goal.enum_told-in-HighestCurrent
unfolding mistake_number
enum_told-in-HighestCurrent c = search rules

pub enum_told-in-HighestListed : goal.enum_told-in-HighestListed
unfolding mistake_number
enum_told-in-HighestListed c = search rules

pub enum_told-in-NotOnlyCurrent : goal.enum_told-in-NotOnlyCurrent
unfolding mistake_number
enum_told-in-NotOnlyCurrent c = search rules

pub enum_told-in-NotOnlyOne : goal.enum_told-in-NotOnlyOne
unfolding mistake_number
enum_told-in-NotOnlyOne c = search rules

pub enum_told-in-Unexplained : goal.enum_told-in-Unexplained
unfolding mistake_number
enum_told-in-Unexplained c = search rules

pub returns-in-OnlyAbove : goal.returns-in-OnlyAbove
unfolding mistake_number
returns-in-OnlyAbove c = search rules

pub returns-in-LengthCut : goal.returns-in-LengthCut
unfolding mistake_number
returns-in-LengthCut c = search rules

pub returns-in-LengthOfAll : goal.returns-in-LengthOfAll
unfolding mistake_number
returns-in-LengthOfAll c = search rules

pub returns-in-HighestCurrent : goal.returns-in-HighestCurrent
unfolding mistake_number
returns-in-HighestCurrent c = search rules

pub returns-in-HighestListed : goal.returns-in-HighestListed
unfolding mistake_number
returns-in-HighestListed c = search rules

pub returns-in-NotOnlyCurrent : goal.returns-in-NotOnlyCurrent
unfolding mistake_number
returns-in-NotOnlyCurrent c = search rules

pub returns-in-NotOnlyOne : goal.returns-in-NotOnlyOne
unfolding mistake_number
returns-in-NotOnlyOne c = search rules

pub returns-in-Unexplained : goal.returns-in-Unexplained
unfolding mistake_number
returns-in-Unexplained c = search rules
