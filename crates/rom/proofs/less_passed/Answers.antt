-- `rom::less_passed` meets its contract.
use native.Mathlib.Omega.{arith}
use Rattle.rom.specs.inner.Standing.{less_passed}
use borrow.Author.Rules.{rules}
use Rattle.rom.proofs.less_passed.Goals as goal

pub difference-requires : goal.difference-requires
unfolding less_passed
difference-requires c = search rules

pub difference-passed-requires : goal.difference-passed-requires
unfolding less_passed
difference-passed-requires c = search rules

pub difference-requires-2 : goal.difference-requires-2
unfolding less_passed
difference-requires-2 c = search rules

pub overflow_cast-result : goal.overflow_cast-result
unfolding less_passed
overflow_cast-result c = search rules

pub returns : goal.returns
unfolding less_passed
returns c = omega arith
