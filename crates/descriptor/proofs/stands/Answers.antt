-- `descriptor::stands` meets its contract: too few bytes, or the four fields. Assumes nothing.
use Rattle.descriptor.proofs.Laws.{short_response, short_head, short_body, whole_body}
use Rattle.descriptor.proofs.stands.Goals as goal

pub returns-then-s-lt4 : goal.returns-then-s-lt4
returns-then-s-lt4 c = search short_response

pub returns-then-s-at : goal.returns-then-s-at
returns-then-s-at c = search short_head

pub returns-then-s-next : goal.returns-then-s-next
returns-then-s-next c = search short_body

pub returns : goal.returns
returns c = search whole_body
