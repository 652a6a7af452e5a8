-- `judge::put_due` meets its contract: the buffer is cleared, and what the right box sends is put to its front.
use Rattle.layout.specs.Layout.{stored}
use Rattle.judge.proofs.Boxes.{due_put}
use Rattle.judge.proofs.put_due.Goals as goal

pub returns : goal.returns
returns c = let o = c in
    let a = o.args in
    due_put (stored a.lay a.s.now) (λ i. (c.type_inv.s i).fits) o.requires.0 a.c.rt a.c.sfn.0 a.c.allocation a.scratch.now _ o.requires.1 c.clear.ensures _ _ c.send-made.ensures
