-- `legal::pad_rule` meets its contract.
use Rattle.legal.proofs.Words.{pad_some, pad_none}
use Rattle.legal.proofs.pad_rule.Goals as goal

pub returns-then-byte-ne0 : goal.returns-then-byte-ne0
returns-then-byte-ne0 c = search pad_some

pub returns : goal.returns
returns c = search pad_none
