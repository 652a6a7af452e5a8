-- `sense::meaning` meets its contract: the kinds are tried in turn.
use Rattle.sense.specs.Sense.{meant, kinds}
use Rattle.sense.proofs.Tried.{is_first, is_later, is_none}
use Rattle.sense.proofs.meaning.Goals as goal

pub returns-then-is_kind : goal.returns-then-is_kind
unfolding meant kinds
returns-then-is_kind c = is_first _ _ _ _ c.is_kind.ensures c.if-is_kind.true

pub returns-then-is_kind-2 : goal.returns-then-is_kind-2
unfolding meant kinds
returns-then-is_kind-2 c = is_later _ _ _ _ c.is_kind.ensures _ c.if-is_kind.false (is_first _ _ _ _ c.is_kind-2.ensures c.if-is_kind-2.true)

pub returns-then-is_kind-3 : goal.returns-then-is_kind-3
unfolding meant kinds
returns-then-is_kind-3 c = is_later _ _ _ _ c.is_kind.ensures _ c.if-is_kind.false (is_later _ _ _ _ c.is_kind-2.ensures _ c.if-is_kind-2.false (is_first _ _ _ _ c.is_kind-3.ensures c.if-is_kind-3.true))

pub returns-then-is_kind-4 : goal.returns-then-is_kind-4
unfolding meant kinds
returns-then-is_kind-4 c = is_later _ _ _ _ c.is_kind.ensures _ c.if-is_kind.false (is_later _ _ _ _ c.is_kind-2.ensures _ c.if-is_kind-2.false (is_later _ _ _ _ c.is_kind-3.ensures _ c.if-is_kind-3.false (is_first _ _ _ _ c.is_kind-4.ensures c.if-is_kind-4.true)))

pub returns : goal.returns
unfolding meant kinds
returns c = is_later _ _ _ _ c.is_kind.ensures _ c.if-is_kind.false (is_later _ _ _ _ c.is_kind-2.ensures _ c.if-is_kind-2.false (is_later _ _ _ _ c.is_kind-3.ensures _ c.if-is_kind-3.false (is_later _ _ _ _ c.is_kind-4.ensures _ c.if-is_kind-4.false (is_none _))))
