-- `lent::copy` meets its contract: `nowhere` behind the end, else all of it, or what has room.
use mathlib.Core.Path.{refl}
use Rattle.lent.proofs.Laws.{nowhere, room, all}
use Rattle.lent.proofs.copy.Goals as goal

pub returns-then-out-at : goal.returns-then-out-at
returns-then-out-at c = search nowhere

pub returns-then-part-room : goal.returns-then-part-room
returns-then-part-room c = all c.args.part.now c.place.ensures

pub returns : goal.returns
returns c = room c.args.part.now refl c.place-2.ensures
