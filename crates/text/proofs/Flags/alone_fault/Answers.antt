-- `text::Flags::alone_fault` meets its contract: each way is a case of the rule.
use Rattle.refusal.proofs.First.{if_true, if_false}
use Rattle.text.proofs.Flags.alone_fault.Goals as goal

pub returns-then-alone : goal.returns-then-alone
returns-then-alone c = rw (← c.alone.ensures, c.if-alone.true, if_true)

pub returns : goal.returns
returns c = rw (← c.alone.ensures, c.if-alone.false, if_false)
