-- `responder::put_pieces` meets its contract: two writings, one after the other.
use Rattle.layout.specs.Layout.{stored}
use Rattle.responder.proofs.Laws.{then_rest}
use Rattle.responder.proofs.put_pieces.Goals as goal

pub returns : goal.returns
returns c = let a = c.args in
    let f = c.put_fitting-fitting.ensures in
    then_rest a.rt (stored a.lay a.s.now) a.from a.to _ f.ordered f.within f.wrote c.put_rest.ensures
