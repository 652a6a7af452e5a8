-- `legal::last_fault` meets its contract: nothing is left, one word, or up to three.
use Rattle.legal.specs.inner.Periodic.{words_at}
use Rattle.legal.proofs.Words.{words_none, words_one}
use Rattle.legal.proofs.last_fault.Goals as goal

pub returns-then-body-k : goal.returns-then-body-k
returns-then-body-k c = search words_none

pub returns-then-body-k-2 : goal.returns-then-body-k-2
returns-then-body-k-2 c = search words_one

pub returns : goal.returns
unfolding words_at
returns c = cc
