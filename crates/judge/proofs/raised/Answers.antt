-- `judge::raised` meets its contract: each return is a case of the definition.
use Rattle.judge.proofs.Boxes.{raised_low, raised_every, raised_on, raised_off}
use Rattle.judge.proofs.raised.Goals as goal

pub returns-then-number-high : goal.returns-then-number-high
returns-then-number-high c = search raised_low

pub returns-then-every : goal.returns-then-every
returns-then-every c = search raised_every

pub returns-then-on : goal.returns-then-on
returns-then-on c = search raised_on

pub returns : goal.returns
returns c = search raised_off
