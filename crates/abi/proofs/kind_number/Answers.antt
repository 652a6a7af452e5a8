-- `abi::kind_number` meets its contract, kind by kind. Assumes nothing.
use borrow.Author.Rules.{rules}
use Rattle.abi.specs.Left.{kind_number}
use Rattle.abi.proofs.kind_number.Goals as goal

pub enum_told-1 : goal.enum_told-1
unfolding kind_number
enum_told-1 c = search rules

pub enum_told-in-Operation : goal.enum_told-in-Operation
unfolding kind_number
enum_told-in-Operation c = search rules

pub enum_told-in-Field : goal.enum_told-in-Field
unfolding kind_number
enum_told-in-Field c = search rules

pub enum_told-in-Trouble : goal.enum_told-in-Trouble
unfolding kind_number
enum_told-in-Trouble c = search rules

pub returns-in-Nothing : goal.returns-in-Nothing
unfolding kind_number
returns-in-Nothing c = search rules

pub returns-in-Operation : goal.returns-in-Operation
unfolding kind_number
returns-in-Operation c = search rules

pub returns-in-Field : goal.returns-in-Field
unfolding kind_number
returns-in-Field c = search rules

pub returns-in-Trouble : goal.returns-in-Trouble
unfolding kind_number
returns-in-Trouble c = search rules
