-- `legal::too_short` meets its contract, by the cases of the length.
use borrow.Author.Rules.{rules}
use Rattle.legal.specs.Bodies.{is_too_short}
use Rattle.legal.proofs.too_short.Goals as goal

pub enum_told-1 : goal.enum_told-1
unfolding is_too_short
enum_told-1 c = search rules

pub enum_known-wanted : goal.enum_known-wanted
unfolding is_too_short
enum_known-wanted c = search rules

pub overflow_cast-result : goal.overflow_cast-result
unfolding is_too_short
overflow_cast-result c = search rules

pub enum_told-in-Counted : goal.enum_told-in-Counted
unfolding is_too_short
enum_told-in-Counted c = search rules

pub overflow_add-result : goal.overflow_add-result
unfolding is_too_short
overflow_add-result c = search rules

pub returns-in-Any : goal.returns-in-Any
unfolding is_too_short
returns-in-Any c = rw (c.in-Any.is, is_too_short)

pub returns-in-Exactly : goal.returns-in-Exactly
unfolding is_too_short
returns-in-Exactly c = rw (c.in-Exactly.is, is_too_short)

pub returns-in-Counted : goal.returns-in-Counted
unfolding is_too_short
returns-in-Counted c = rw (c.in-Counted.is, is_too_short)
