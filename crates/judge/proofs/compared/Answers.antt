-- `judge::compared` meets its contract: each return is a case of the definition.
use Rattle.judge.proofs.Same.{met_wrong, met_short, met_exact, met_padded, met_other}
use Rattle.judge.proofs.compared.Goals as goal

pub returns-then-at-response : goal.returns-then-at-response
returns-then-at-response c = met_wrong _ _ _ c.common-at.ensures c.if-at-due.true c.if-at-response.true

pub returns-then-at-due : goal.returns-then-at-due
returns-then-at-due c = met_short _ _ _ c.common-at.ensures c.if-at-due.true c.if-at-response.false

pub returns-then-response-at : goal.returns-then-response-at
returns-then-response-at c = met_exact _ _ _ c.common-at.ensures c.if-at-due.false c.if-response-at.true

pub returns-then-zeros_from : goal.returns-then-zeros_from
returns-then-zeros_from c = met_padded _ _ _ c.common-at.ensures c.if-at-due.false c.if-response-at.false _ c.zeros_from.ensures c.if-zeros_from.true

pub returns : goal.returns
returns c = met_other _ _ _ c.common-at.ensures c.if-at-due.false c.if-response-at.false _ c.zeros_from.ensures c.if-zeros_from.false
