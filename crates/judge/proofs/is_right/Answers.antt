-- `judge::is_right` meets its contract: a case for each verdict.
use borrow.Author.Rules.{rules}
use Rattle.judge.specs.Verdict.{is_right}
use Rattle.judge.proofs.is_right.Goals as goal

pub enum_told-1 : goal.enum_told-1
unfolding is_right
enum_told-1 c = search rules

pub enum_told-in-Padded : goal.enum_told-in-Padded
unfolding is_right
enum_told-in-Padded c = search rules

pub enum_told-in-Short : goal.enum_told-in-Short
unfolding is_right
enum_told-in-Short c = search rules

pub enum_told-in-Wrong : goal.enum_told-in-Wrong
unfolding is_right
enum_told-in-Wrong c = search rules

pub enum_told-in-Answered : goal.enum_told-in-Answered
unfolding is_right
enum_told-in-Answered c = search rules

pub enum_told-in-Refused : goal.enum_told-in-Refused
unfolding is_right
enum_told-in-Refused c = search rules

pub returns-in-Exact : goal.returns-in-Exact
unfolding is_right
returns-in-Exact c = search rules

pub returns-in-Padded : goal.returns-in-Padded
unfolding is_right
returns-in-Padded c = search rules

pub returns-in-Short : goal.returns-in-Short
unfolding is_right
returns-in-Short c = search rules

pub returns-in-Wrong : goal.returns-in-Wrong
unfolding is_right
returns-in-Wrong c = search rules

pub returns-in-Answered : goal.returns-in-Answered
unfolding is_right
returns-in-Answered c = search rules

pub returns-in-Refused : goal.returns-in-Refused
unfolding is_right
returns-in-Refused c = search rules
