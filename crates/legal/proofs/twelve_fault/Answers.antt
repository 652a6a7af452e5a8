-- `legal::twelve_fault` meets its contract: the rule at the three words.
use Rattle.legal.specs.inner.Periodic.{words_at}
use borrow.Author.Rules.{rules}
use Rattle.legal.proofs.twelve_fault.Goals as goal

pub inside4-a-requires : goal.inside4-a-requires
unfolding words_at
inside4-a-requires c = search rules

pub overflow_add-k : goal.overflow_add-k
unfolding words_at
overflow_add-k c = search rules

pub inside4-b-requires : goal.inside4-b-requires
unfolding words_at
inside4-b-requires c = search rules

pub overflow_add-k-2 : goal.overflow_add-k-2
unfolding words_at
overflow_add-k-2 c = search rules

pub inside4-c-requires : goal.inside4-c-requires
unfolding words_at
inside4-c-requires c = search rules

pub words_fault-requires : goal.words_fault-requires
unfolding words_at
words_fault-requires c = search rules

pub returns : goal.returns
unfolding words_at
returns c = cc
