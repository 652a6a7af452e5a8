-- `judge::zero_for` meets its contract: the RT that is meant, or another.
use Rattle.judge.proofs.Boxes.{zero_taken, zero_left}
use Rattle.judge.proofs.zero_for.Goals as goal

pub returns-then-rt-which : goal.returns-then-rt-which
returns-then-rt-which c = search zero_taken

pub returns : goal.returns
returns c = search zero_left
